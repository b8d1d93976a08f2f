-- The first item that passes a test.
use Rattle.std.specs.Prelude.{ℕ, suc, Bool, List, [], ◌∷◌, Option, Some, None, option_map, if◌then◌else◌}
use Rattle.bib_spec.specs.Tree.{Tree}
use Rattle.bib_spec.specs.Reading.{Item}

-- the number of the first item that passes the test
abbrev pub first_item : (Tree → Bool) → List Item → Option ℕ
first_item test [] = None
first_item test (item ∷ items) = if test item.tree then Some 0 else option_map suc (first_item test items)
