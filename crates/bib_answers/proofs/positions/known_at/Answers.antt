use Rattle.bib_answers.proofs.Words.{◌∙◌, ◌<◌, ◌^◌, ◌-◌, length, take, drop, fold, rules, ap, Position, position_after, IsKnown}
use Rattle.std.proofs.Common.{arith}
use Rattle.bib_answers.proofs.PositionSteps.{position_later, position_end, numbers_fit}
use Rattle.bib_answers.proofs.positions.known_at.Goals as goal

pub moved-requires-clause-line : goal.moved-requires-clause-line
moved-requires-clause-line c =
    let small : length c.args.file.now < 2 ^ 63 = search rules in
    (numbers_fit c.args.file.now c.known_before-from.result c.min-end.result (c.known_before-from.ensures.known c.args.file.now c.requires) c.known_before-from.ensures.place
    (omega (arith, c.min-end.ensures)) small).0

pub moved-requires-clause-column : goal.moved-requires-clause-column
moved-requires-clause-column c =
    let small : length c.args.file.now < 2 ^ 63 = search rules in
    (numbers_fit c.args.file.now c.known_before-from.result c.min-end.result (c.known_before-from.ensures.known c.args.file.now c.requires) c.known_before-from.ensures.place
    (omega (arith, c.min-end.ensures)) small).1

pub returns-clause-known : goal.returns-clause-known
returns-clause-known c =
    let from : IsKnown c.args.file.now c.known_before-from.result = c.known_before-from.ensures.known c.args.file.now c.requires in
    record {
      within = omega (arith, c.min-end.ensures);
      at = c.moved.ensures
          ∙ ap (λ (p : Position). fold position_after p (take (c.min-end.result - c.known_before-from.result.place) (drop c.known_before-from.result.place c.args.file.now))) from.at
          ∙ position_later c.args.file.now c.known_before-from.result.place c.min-end.result c.known_before-from.ensures.place;
    }

pub returns-clause-at : goal.returns-clause-at
returns-clause-at c =
    let from : IsKnown c.args.file.now c.known_before-from.result = c.known_before-from.ensures.known c.args.file.now c.requires in
    c.moved.ensures
    ∙ ap (λ (p : Position). fold position_after p (take (c.min-end.result - c.known_before-from.result.place) (drop c.known_before-from.result.place c.args.file.now))) from.at
    ∙ position_later c.args.file.now c.known_before-from.result.place c.min-end.result c.known_before-from.ensures.place
    ∙ position_end c.args.file.now c.args.place c.min-end.result c.min-end.ensures
