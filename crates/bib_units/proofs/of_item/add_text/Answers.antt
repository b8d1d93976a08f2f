use Rattle.std.proofs.Common.{◌∙◌, sym, refl}
use Rattle.bib_units.proofs.UnitsAdded.{no-text, text-added}
use Rattle.bib_units.proofs.of_item.add_text.Goals as goal

pub returns-then-is_empty : goal.returns-then-is_empty
returns-then-is_empty c r macros before all =
    no-text r macros c.args.units.now.items before c.args.text.now c.split_front.result.1.now c.split_front.ensures.rest (sym c.is_empty.ensures ∙ c.if-is_empty.true) all

pub returns : goal.returns
returns c r macros before all =
    text-added r macros c.args.units.now.items c.push.new.self.items before c.args.text.now c.split_front.result.1.now _ c.split_front.ensures.rest (sym c.is_empty.ensures ∙ c.if-is_empty.false)
    c.in_ok-push.ensures.items refl refl c.split_end.ensures.words c.split_end.ensures.space all
