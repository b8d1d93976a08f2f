-- The parts that are sought.
use Rattle.std.specs.Prelude.{◌≡◌, Bool, false, List, All}
use Rattle.bib_spec.specs.Bytes.{name_limit}
use Rattle.bib_spec.specs.Text.{Text}
use Rattle.bib_spec.specs.Tree.{Part, Tree, IsTree, tree_bytes}
use Rattle.part_spec.specs.Parts.{uses, holds, any_part}
use Rattle.bib_items.specs.declared.list.Item.{Item}
use Rattle.bib_items.specs.declared.seeking.Sought.{Sought}
use Rattle.bib_items.specs.declared.seeking.Sought.TheVariants as sought

-- the test of the parts that are sought
abbrev pub test_of : Sought → Part → Bool
test_of sought.Nothing = λ part. false
test_of (sought.Uses name) = uses name.now
test_of (sought.Holds text) = holds text.now

-- the item with this body has no part that is sought
abbrev pub LacksPart : Sought → Text → Type 0
LacksPart s body = (tree : Tree) → IsTree name_limit tree → tree_bytes tree ≡ body → any_part (test_of s) tree ≡ false

-- none of these items has a part that is sought
abbrev pub LackPart : Sought → List Item → Type 0
LackPart s items = All (λ (i : Item). LacksPart s i.body) items
