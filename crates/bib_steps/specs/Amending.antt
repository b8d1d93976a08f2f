-- How an edit changes the pieces of a step. (dialect)
use Rattle.std.specs.Prelude.{ℕ, zero, suc, ◌≡◌, ◌+◌, ◌-◌, ◌≤◌, Option, Some, None, List, [], ◌∷◌, ◌++◌, length, map, take, drop, slice_index_or, slice_set}
use Rattle.std.specs.List.{AllByRecursion}
use Rattle.bib_spec.specs.Bytes.{file_limit}
use Rattle.bib_spec.specs.Pieces.{Piece, end_of, reversed_from}
use Rattle.history_spec.specs.Composing.{old_end, new_end, BeginsAfter, EndBefore, Replacement, replaced, composed, ends_of}

-- what an edit replaces: the pieces near its last ones, and also pieces before them if its others are far from these
pub record Amendment : Type 0 where
  pub last : Replacement
  pub others : Option Replacement

-- the list with the replacement, if there is one
abbrev pub replaced_by : Option Replacement → List Piece → List Piece
replaced_by None ps = ps
replaced_by (Some r) ps = replaced r ps

-- the list with both
abbrev pub amended : Amendment → List Piece → List Piece
amended a ps = replaced_by a.others (replaced a.last ps)

-- ---- positions

-- the replacement takes pieces of a list of this length
pub record IsWithin (n : ℕ) (r : Replacement) : Type 0 where
  pub ordered : r.from ≤ r.to
  pub inside : r.to ≤ n

-- the replacement, if there is one, takes pieces before this position
abbrev pub IsBefore : ℕ → Option Replacement → Type 0
IsBefore n None = Unit {0}
IsBefore n (Some r) = IsWithin n r

-- both take pieces of a list of this length, and the last ones come after the others
pub record AreWithin (n : ℕ) (a : Amendment) : Type 0 where
  pub last : IsWithin n a.last
  pub others : IsBefore a.last.from a.others

-- how many new pieces the replacement has, if there is one
abbrev pub count_in : Option Replacement → ℕ
count_in None = 0
count_in (Some r) = length r.pieces

-- how many new pieces the amendment has
abbrev pub added_count : Amendment → ℕ
added_count a = length a.last.pieces + count_in a.others

-- ---- what an edit is near

-- where the pieces before this position end, if these are the ends of all
abbrev pub end_at : List ℕ → ℕ → ℕ
end_at ends zero = 0
end_at ends (suc n) = slice_index_or ends n 0

-- the pieces from this position on begin after this place of the text that all of them make
abbrev pub BeginAfter : List Piece → ℕ → ℕ → Type 0
BeginAfter ps position place =
    BeginsAfter place (reversed_from (old_end 0 (take position ps)) (new_end 0 0 (take position ps)) (drop position ps))

-- the pieces before `from` end before the part of an edit begins, and those from `to` on begin after it ends
pub record IsNear (ps part : List Piece) (from to : ℕ) : Type 0 where
  pub ordered : from ≤ to
  pub inside : to ≤ length ps
  pub front : EndBefore (take from ps) part
  pub back : BeginAfter ps to (old_end 0 part)

-- ---- ends that move

-- where pieces end in the text that they make, if those before them end at `at` in the text before and at `mid` in that text
abbrev pub ends_from : ℕ → ℕ → List Piece → List ℕ
ends_from at mid ps = map end_of (reversed_from at mid ps)

-- where one piece ends in the text that it makes, after pieces that end at `at` and `mid`
abbrev pub next_end : ℕ → ℕ → Piece → ℕ
next_end at mid p = mid + (p.place - at) + length p.new

-- the places are right up to one number: the pieces end there if the pieces before them end at some `at` and `mid`
abbrev pub AreSomeEnds : List Piece → List ℕ → Type 0
AreSomeEnds ps ends = (at : ℕ) × (mid : ℕ) × (ends ≡ ends_from at mid ps)

-- a place from `old` on, moved as a place moves from `old` to `new`
abbrev pub moved : ℕ → ℕ → ℕ → ℕ
moved old new place = place - old + new

-- each of the places is one from `old` on, and is in a file once it is moved
abbrev pub CanMove : ℕ → ℕ → List ℕ → Type 0
CanMove old new places = AllByRecursion (λ place. (old ≤ place) × (moved old new place ≤ file_limit)) places

-- ---- an edit inside a piece

-- The piece, after a piece `q` of a later edit has begun at byte `k` of its new text. The old bytes of `q` that reach past that
-- text come after its own old bytes.
abbrev pub edited : ℕ → Piece → Piece → Piece
edited k q p = record {
  place = p.place;
  old = p.old ++ drop (length p.new - k) q.old;
  new = take k p.new ++ (q.new ++ drop (k + length q.old) p.new);
}

-- each edit is one piece, and the second begins at byte `k` of the first one's new text, or at its end
abbrev pub BeginsInside : ℕ → ℕ → ℕ → List Piece → List Piece → Type 0
BeginsInside at mid k first second = (p : Piece) × (q : Piece) × (first ≡ p ∷ []) × (second ≡ q ∷ []) × (q.place ≡ mid + (p.place - at) + k) × (k ≤ length p.new)

-- the new text of the piece at position `n` has at least `k` bytes
abbrev pub HasSpot : ℕ → ℕ → List Piece → Type 0
HasSpot n k [] = ⊥
HasSpot zero k (p ∷ ps) = k ≤ length p.new
HasSpot (suc n) k (p ∷ ps) = HasSpot n k ps

-- the pieces, with that at position `n` edited
abbrev pub edited_at : ℕ → ℕ → Piece → List Piece → List Piece
edited_at n k q [] = []
edited_at zero k q (p ∷ ps) = edited k q p ∷ ps
edited_at (suc n) k q (p ∷ ps) = p ∷ edited_at n k q ps

-- The edit is one piece, and begins at byte `k` of the new text of the piece at position `n`, or at its end. The pieces of the
-- step and the edit as one are those of the step, with that piece edited.
pub record LiesInside (ps edit : List Piece) (n k : ℕ) : Type 0 where
  pub spot : HasSpot n k ps
  pub more : Piece
  pub one : edit ≡ more ∷ []
  pub joined : composed ps edit ≡ edited_at n k more ps

-- the places are the ends of pieces that were these, except for the one at this position
abbrev pub WereEnds : ℕ → List Piece → List ℕ → Type 0
WereEnds n ps ends = (old : List Piece) × (p : Piece) × (ps ≡ slice_set old n p) × (ends ≡ ends_of old)
