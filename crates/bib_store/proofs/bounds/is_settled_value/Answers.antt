use Rattle.bib_store.proofs.Words.{◌∙◌, sym, part_view}
use Rattle.bib_store.proofs.SettledCrossrefs.{literal_value, literal_values}
use Rattle.bib_store.proofs.bounds.is_settled_value.Goals as goal

pub returns-in-Some : goal.returns-in-Some
returns-in-Some c is = literal_value c.args.bytes.now (part_view c.in-Some.part) (sym c.is_literal.ensures ∙ is) c.in-Some.ensures

pub returns-in-Ok : goal.returns-in-Ok
returns-in-Ok c is = literal_values c.args.bytes.now c.in-Ok.parts c.in-Ok.ensures.found (c.are_literal.ensures is)
