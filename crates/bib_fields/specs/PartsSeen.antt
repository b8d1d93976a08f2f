-- The parts of an entry in conflict, in the code.
use Rattle.std.specs.Prelude.{List, map, filter}
use Rattle.bib_spec.specs.Text.{Text, folded}
use Rattle.bib_spec.specs.Tree.{Entry}
use Rattle.bib_spec.specs.Texts.{Macros}
use Rattle.merge_spec.specs.Conflicts as conflicts
use Rattle.merge_spec.specs.Conflicts.{is_in_conflict}
use Rattle.bib_fields.specs.declared.telling.ChangedPart.{ChangedPart}
use Rattle.bib_fields.specs.declared.telling.ChangedPart.TheVariants as part

-- a part of an entry, as the definitions have it
abbrev pub part_seen : ChangedPart → conflicts.ChangedPart
part_seen part.Whole = conflicts.Whole
part_seen part.TypeName = conflicts.TheType
part_seen (part.Field name) = conflicts.TheField name

-- of the fields with these names those that are in conflict
abbrev pub told : Macros → Entry → Macros → Entry → Macros → Entry → List Text → List conflicts.ChangedPart
told mb b mo o mt t names = map (λ name. conflicts.TheField (folded name)) (filter (is_in_conflict mb b mo o mt t) names)
