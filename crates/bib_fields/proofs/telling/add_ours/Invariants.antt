use Rattle.std.proofs.Common.{◌≡◌, ◌++◌, take, map}
use Rattle.bib_spec.specs.Tree.{Entry}
use Rattle.bib_spec.specs.Texts.{Macros}
use Rattle.bib_scan.specs.View.{field_seen}
use Rattle.bib_sayings.specs.FieldTables.{names_of}
use Rattle.bib_fields.specs.Versions.{IsVersion}
use Rattle.bib_fields.specs.PartsSeen.{part_seen, told}
use Rattle.bib_fields.proofs.telling.add_ours.Given as goal

abbrev pub invariant-fields : goal.invariant-fields
invariant-fields l = (mb mo mt : Macros) (eb eo et : Entry) → IsVersion l.b mb eb → IsVersion l.o mo eo → IsVersion l.t mt et
    → map part_seen l.parts.items ≡ map part_seen l.fn.parts.items ++ told mb eb mo eo mt et (names_of (map field_seen (take l.k l.fields)))
