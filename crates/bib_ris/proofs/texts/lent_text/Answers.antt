use Rattle.std.proofs.Common.{◌∙◌, sym, ap}
use Rattle.bib_spec.specs.Texts.{field_text}
use Rattle.bib_scan.specs.PartView.{part_view}
use Rattle.bib_store.proofs.ShortValues.{alone_says}
use Rattle.bib_ris.proofs.texts.lent_text.Goals as goal

pub returns-then-is_neat : goal.returns-then-is_neat
returns-then-is_neat g c v is same =
    let said = c.part_text-text.ensures ∙ sym (alone_says (g.M.MacroTable.macros c.args.macros.now) v (part_view c.in_ok-part.part) (c.in_ok-part.ensures v is same)) in
    sym (c.is_neat.ensures.own c.if-is_neat.true) ∙ ap field_text said
