use Rattle.bib_store.proofs.Words.{sym, ◌∙◌, part_view}
use Rattle.bib_store.proofs.ShortValues.{alone_says}
use Rattle.bib_store.proofs.measuring.only_text.Goals as goal

pub returns : goal.returns
returns g c v is same =
    c.part_text.ensures ∙ sym (alone_says (g.M.MacroTable.macros c.args.macros.now) v (part_view c.in_ok-part.part) (c.in_ok-part.ensures v is same))
