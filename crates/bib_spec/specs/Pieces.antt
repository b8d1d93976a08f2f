-- Replacing parts of a text, and the way back. (dialect)
use Rattle.std.specs.Prelude.{ℕ, ◌≡◌, ◌+◌, ◌-◌, ◌≤◌, List, [], ◌∷◌, ◌++◌, length, take, drop, codes}
use Rattle.std.specs.List.{AllByRecursion, between}
use Rattle.bib_spec.specs.Text.{Text}

-- a change of a text at one place: new bytes for old ones
pub record Piece : Type 0 where
  pub place : ℕ
  pub old : Text
  pub new : Text

-- where the piece ends in the old text
abbrev pub end_of : Piece → ℕ
end_of p = p.place + length p.old

-- ---- fitting

-- the piece lies inside the text, and its old bytes stand there
pub record Stands (text : Text) (p : Piece) : Type 0 where
  pub inside : end_of p ≤ length text
  pub there : take (length p.old) (drop p.place text) ≡ p.old

-- the first piece begins at this place or after it, and each later piece at the end of the one before it or after that
abbrev pub AscendFrom : ℕ → List Piece → Type 0
AscendFrom at [] = Unit {0}
AscendFrom at (p ∷ ps) = (at ≤ p.place) × AscendFrom (end_of p) ps

-- the pieces are in order and do not overlap; they may touch
abbrev pub IsAscending : List Piece → Type 0
IsAscending ps = AscendFrom 0 ps

-- the pieces are in order and do not overlap, and the text has each piece's old bytes at its place
pub record Fit (ps : List Piece) (text : Text) : Type 0 where
  pub ascending : IsAscending ps
  pub standing : AllByRecursion (Stands text) ps

-- ---- replacing

-- the text from this place on, with the old bytes of each piece replaced by its new ones
abbrev pub applied_from : ℕ → List Piece → Text → Text
applied_from at [] text = drop at text
applied_from at (p ∷ ps) text = between at p.place text ++ p.new ++ applied_from (end_of p) ps text

-- the text with the old bytes of each piece replaced by its new ones, all at once
abbrev pub applied : List Piece → Text → Text
applied ps text = applied_from 0 ps text

-- ---- the way back

-- the pieces that lead back, if the piece before these ends at `at` in the old text and at `new_at` in the new
abbrev pub reversed_from : ℕ → ℕ → List Piece → List Piece
reversed_from at new_at [] = []
reversed_from at new_at (p ∷ ps) =
    record { place = new_at + (p.place - at); old = p.new; new = p.old }
    ∷ reversed_from (end_of p) (new_at + (p.place - at) + length p.new) ps

-- the pieces that lead back: old and new bytes exchanged, each piece at its place in the new text
abbrev pub reversed : List Piece → List Piece
reversed ps = reversed_from 0 0 ps

-- ---- chunks

-- bytes that an edit keeps, or bytes that it replaces: first the old, then the new
pub data Chunk : Type 0 where
  Kept : Text → Chunk
  Replaced : Text → Text → Chunk

-- the text before the edit
abbrev pub old_of : List Chunk → Text
old_of [] = []
old_of (Kept text ∷ chunks) = text ++ old_of chunks
old_of (Replaced old new ∷ chunks) = old ++ old_of chunks

-- the text after the edit
abbrev pub new_of : List Chunk → Text
new_of [] = []
new_of (Kept text ∷ chunks) = text ++ new_of chunks
new_of (Replaced old new ∷ chunks) = new ++ new_of chunks

-- the replaced chunks as pieces, if the first chunk begins at `at`
abbrev pub pieces_from : ℕ → List Chunk → List Piece
pieces_from at [] = []
pieces_from at (Kept text ∷ chunks) = pieces_from (at + length text) chunks
pieces_from at (Replaced old new ∷ chunks) = record { place = at; old = old; new = new } ∷ pieces_from (at + length old) chunks

-- the replaced chunks as pieces, each with its place in the text before the edit
abbrev pub pieces_of_chunks : List Chunk → List Piece
pieces_of_chunks chunks = pieces_from 0 chunks

-- ---- laws

-- the pieces that lead back fit the new text
abbrev pub reversed_pieces_fit : Type 0
reversed_pieces_fit = (ps : List Piece) (text : Text) → Fit ps text → Fit (reversed ps) (applied ps text)

-- the pieces that lead back make the old text again
abbrev pub reversed_pieces_lead_back : Type 0
reversed_pieces_lead_back = (ps : List Piece) (text : Text) → Fit ps text → applied (reversed ps) (applied ps text) ≡ text

-- reversing pieces twice gives the same pieces
abbrev pub reversed_twice : Type 0
reversed_twice = (ps : List Piece) → IsAscending ps → reversed (reversed ps) ≡ ps

-- the pieces of chunks fit the text before the edit
abbrev pub chunks_fit : Type 0
chunks_fit = (chunks : List Chunk) → Fit (pieces_of_chunks chunks) (old_of chunks)

-- the pieces of chunks lead from the text before the edit to the text after it
abbrev pub chunks_lead : Type 0
chunks_lead = (chunks : List Chunk) → applied (pieces_of_chunks chunks) (old_of chunks) ≡ new_of chunks

-- The chunks are the text before the edit, and the text that the pieces make of it; the replaced chunks are the pieces. So
-- all bytes that no piece covers are kept.
pub record AreChunks (chunks : List Chunk) (ps : List Piece) (text : Text) : Type 0 where
  pub before : old_of chunks ≡ text
  pub afterwards : new_of chunks ≡ applied ps text
  pub replaced : pieces_of_chunks chunks ≡ ps

-- if pieces fit a text, there are such chunks
abbrev pub pieces_are_chunks : Type 0
pieces_are_chunks = (ps : List Piece) (text : Text) → Fit ps text → (chunks : List Chunk) × AreChunks chunks ps text

-- the pieces end at this place or before it
abbrev pub EndBy : ℕ → List Piece → Type 0
EndBy place ps = AllByRecursion (λ p. end_of p ≤ place) ps

-- the pieces begin at this place or after it
abbrev pub BeginFrom : ℕ → List Piece → Type 0
BeginFrom place ps = AllByRecursion (λ p. place ≤ p.place) ps

-- The bytes between two places are kept whole if no piece reaches into them: before the first piece, between two pieces, or
-- after the last. Before them is what the earlier pieces make of the text before, and after them what the later pieces make
-- of the text after.
abbrev pub kept_between : Type 0
kept_between = (earlier later : List Piece) (text : Text) (from to : ℕ) → IsAscending earlier → EndBy from earlier → BeginFrom to later → from ≤ to
    → applied (earlier ++ later) text ≡ applied earlier (take from text) ++ between from to text ++ applied_from to later text

-- ---- an example: of two entries, the first is moved after the second

-- two entries, each in a line
abbrev pub two_entries : Text
two_entries = codes "@misc{a}\n@misc{b}\n"

-- the pieces that move the first entry after the second
abbrev pub first_moved_after : List Piece
first_moved_after =
    record { place = 0; old = codes "@misc{a}"; new = [] }
    ∷ record { place = 18; old = []; new = codes "@misc{a}\n" } ∷ []

-- the pieces move the first entry after the second, and these are the pieces that lead back
pub record IsMovedAndBack (file : Text) (pieces : List Piece) : Type 0 where
  pub afterwards : applied pieces file ≡ codes "\n@misc{b}\n@misc{a}\n"
  pub back : reversed pieces ≡
      record { place = 0; old = []; new = codes "@misc{a}" }
      ∷ record { place = 10; old = codes "@misc{a}\n"; new = [] } ∷ []
