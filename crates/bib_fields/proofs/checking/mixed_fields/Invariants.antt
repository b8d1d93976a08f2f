use Rattle.std.proofs.Common.{List, take}
use Rattle.std.specs.List.{AllZip}
use Rattle.bib_spec.specs.Tree.{Row}
use Rattle.bib_fields.specs.Fields.{AreFields, IsMixedField}
use Rattle.bib_fields.proofs.checking.mixed_fields.Given as goal

abbrev pub invariant-rows : goal.invariant-rows
invariant-rows l = (o t : List Row) → AreFields l.ours o → AreFields l.theirs t → AllZip (IsMixedField o t) l.fields.items (take l.k l.rows)
