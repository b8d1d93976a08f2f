use Rattle.bib_steps.proofs.Words.{rules, ◌≡◌, ◌+◌, ◌-◌, ◌≤◌, length, sym, ◌∙◌, ap, length-append}
use Rattle.bib_steps.proofs.Turned.{turned, replaced_by_turning}
use Rattle.bib_steps.proofs.replacing.bring.Goals as goal

pub returns-clause-items : goal.returns-clause-items
returns-clause-items g c = λ old new is count.
    let all : length c.args.items.now.items ≡ length old + length new = ap length is ∙ length-append old new in
    let within : c.args.to ≤ length old = search rules in
    let len : c.len.result - (c.args.to - c.args.from) ≡ length old + length new - (c.args.to - c.args.from) = search rules in
    replaced_by_turning old new c.turn.new.items.items c.truncate.new.self.items c.turn-2.new.items.items c.args.from c.args.to
    (c.len.result - (c.args.to - c.args.from)) c.requires.ordered within
    (c.turn.ensures.items ∙ ap (turned c.args.from (c.args.to - c.args.from)) is) len c.truncate.ensures.items
    (c.turn-2.ensures.items ∙ ap (λ n. turned c.args.from (c.len.result - (c.args.to - c.args.from) - c.args.from - n) c.truncate.new.self.items) (sym count))
