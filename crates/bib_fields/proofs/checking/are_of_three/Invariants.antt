use Rattle.std.proofs.Common.{◌≡◌, true, List, take}
use Rattle.std.specs.List.{list_all}
use Rattle.bib_spec.specs.Tree.{Row, Entry}
use Rattle.bib_spec.specs.Texts.{Macros}
use Rattle.merge_spec.specs.ThreeWay.{is_row_of_three}
use Rattle.bib_sayings.specs.FieldTables.{IsTableOfRows}
use Rattle.bib_fields.specs.Versions.{IsVersion}
use Rattle.bib_fields.proofs.checking.are_of_three.Given as goal

abbrev pub invariant-names : goal.invariant-names
invariant-names l = (mb mo mt : Macros) (eb eo et : Entry) → IsVersion l.b mb eb → IsVersion l.o mo eo → IsVersion l.t mt et → (rows : List Row) → IsTableOfRows l.merged rows
    → list_all (λ f. is_row_of_three mb eb mo eo mt et rows f.name.now) (take l.k l.names) ≡ true
