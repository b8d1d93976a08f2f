use Rattle.std.proofs.Common.{Some, sym, ◌∙◌, ap}
use Rattle.std.proofs.lemmas.Option.{slice_get-get_or, slice_get_past}
use Rattle.bib_merge.proofs.spacing.unit_with.Goals as goal

pub returns-in-Some : goal.returns-in-Some
returns-in-Some c = sym (slice_get-get_or c.args.units.now c.args.n c.in-Some.unit.now c.in-Some.ensures.lookup.3.0 ∙ ap Some (sym c.in-Some.ensures.lookup.1))

pub returns-in-None : goal.returns-in-None
returns-in-None c = sym (slice_get_past c.args.units.now c.args.n c.in-None.ensures.lookup.3)
