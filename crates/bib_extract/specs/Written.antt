-- The bytes of the items that are kept.
use Rattle.std.specs.Prelude.{Bool, List, map}
use Rattle.std.specs.List.{flat_map}
use Rattle.bib_spec.specs.Text.{Text}
use Rattle.bib_spec.specs.Reading.{Item, item_bytes}
use Rattle.extract_spec.specs.Extract.{marked, on_its_line}

-- the bytes of the marked items, each on its line
abbrev pub marked_bytes : List Bool → List Item → Text
marked_bytes marks items = flat_map item_bytes (map on_its_line (marked marks items))
