-- What stands around an item that is taken out.
use Rattle.std.specs.Prelude.{ℕ, zero, suc, ◌≡◌, ◌++◌, Bool, true, false, List, [], ◌∷◌, Some, slice_get}
use Rattle.std.specs.Option.{option_map_or}
use Rattle.bib_spec.specs.Text.{Text}
use Rattle.bib_spec.specs.Tree.{Tree, tree_bytes, is_comment}
use Rattle.bib_spec.specs.Reading.{Item, Reading}
use Rattle.bib_spec.specs.Clean.{IsCleanTrail}
use Rattle.bib_spec.specs.Records.{EntryTexts, parent}
use Rattle.bib_spec.specs.Pieces.{Piece}
use Rattle.bib_scan.specs.Layout.{start_of}

-- item n is the first that passes the test
abbrev pub IsFirstAt : (Tree → Bool) → List Item → ℕ → Type 0
IsFirstAt test [] n = ⊥
IsFirstAt test (item ∷ items) zero = test item.tree ≡ true
IsFirstAt test (item ∷ items) (suc n) = (test item.tree ≡ false) × IsFirstAt test items n

-- item n's own bytes, from its at-sign to its close
abbrev pub body_at : List Item → ℕ → Text
body_at items n = option_map_or (λ item. tree_bytes item.tree) (slice_get items n) []

-- the text after item n, up to the next item
abbrev pub trail_at : List Item → ℕ → Text
trail_at items n = option_map_or (λ item. item.trail) (slice_get items n) []

-- the text before item n: the front, or the trail of the item before it
abbrev pub text_before : Text → List Item → ℕ → Text
text_before front items zero = front
text_before front items (suc n) = trail_at items n

-- the text before item n stands after a comment
abbrev pub is_after_comment : List Item → ℕ → Bool
is_after_comment items zero = false
is_after_comment items (suc n) = option_map_or (λ item. is_comment item.tree) (slice_get items n) false

-- the text before item n, with these bytes after it, is clean where it stands
abbrev pub ContinuesCleanly : Reading → ℕ → Text → Type 0
ContinuesCleanly db n more = IsCleanTrail (is_after_comment db.items n) (text_before db.front db.items n ++ more)

-- the text before item n, joined with that after it, is clean where it then stands
abbrev pub JoinsCleanly : Reading → ℕ → Type 0
JoinsCleanly db n = ContinuesCleanly db n (trail_at db.items n)

-- the body of item n goes
abbrev pub removal_of : Reading → ℕ → Piece
removal_of db n = record { place = start_of db n; old = body_at db.items n; new = [] }

-- entry m is the parent of some entry
abbrev pub IsParent : List EntryTexts → ℕ → Type 0
IsParent entries m = (n : ℕ) × (parent entries n ≡ Some m)
