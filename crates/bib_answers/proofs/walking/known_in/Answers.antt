use Rattle.bib_answers.proofs.Words.{◌∙◌, ◌-◌, ◌≤◌, take, drop, fold, min, sym, ap, Text, Position, position_after, IsKnown}
use Rattle.std.proofs.Common.{arith}
use Rattle.bib_answers.specs.Walking.{stretch}
use Rattle.bib_answers.proofs.PositionSteps.{position_later, position_end}
use Rattle.bib_answers.proofs.WalkSteps.{inner_stretch, length_stretch}
use Rattle.bib_answers.proofs.walking.known_in.Goals as goal

pub returns-clause-known : goal.returns-clause-known
returns-clause-known c =
    let file : Text = stretch c.args.span.0 c.args.span.1 c.args.db.now in
    let from : IsKnown file c.known_before-from.result = c.known_before-from.ensures.known file c.requires.known in
    let low = c.known_before-from.ensures.place in
    let high : c.min-end.result ≤ c.args.span.1 - c.args.span.0 = omega (arith, c.min-end.ensures) in
    let all = length_stretch c.args.span.0 c.args.span.1 c.args.db.now c.requires.order c.requires.within in
    record {
      within = omega (arith, high, all);
      at = c.moved_over-n.ensures
          ∙ ap (fold position_after c.known_before-from.result.at) (inner_stretch c.args.span.0 c.args.span.1 c.known_before-from.result.place c.min-end.result c.args.db.now low high)
          ∙ ap (λ (p : Position). fold position_after p (take (c.min-end.result - c.known_before-from.result.place) (drop c.known_before-from.result.place file))) from.at
          ∙ position_later file c.known_before-from.result.place c.min-end.result low;
    }

pub returns-clause-at : goal.returns-clause-at
returns-clause-at c =
    let file : Text = stretch c.args.span.0 c.args.span.1 c.args.db.now in
    let from : IsKnown file c.known_before-from.result = c.known_before-from.ensures.known file c.requires.known in
    let low = c.known_before-from.ensures.place in
    let high : c.min-end.result ≤ c.args.span.1 - c.args.span.0 = omega (arith, c.min-end.ensures) in
    let all = length_stretch c.args.span.0 c.args.span.1 c.args.db.now c.requires.order c.requires.within in
    c.moved_over-n.ensures
    ∙ ap (fold position_after c.known_before-from.result.at) (inner_stretch c.args.span.0 c.args.span.1 c.known_before-from.result.place c.min-end.result c.args.db.now low high)
    ∙ ap (λ (p : Position). fold position_after p (take (c.min-end.result - c.known_before-from.result.place) (drop c.known_before-from.result.place file))) from.at
    ∙ position_later file c.known_before-from.result.place c.min-end.result low
    ∙ position_end file c.args.place c.min-end.result (c.min-end.ensures ∙ ap (min c.args.place) (sym all))
