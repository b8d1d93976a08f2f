-- Where a text that is no journal goes wrong, in the order of reading. A place is given by the number of bytes left from it
-- on, so it is the same number for a text and for the rest of the text after some part. (dialect)
use Rattle.std.specs.Prelude.{ℕ, zero, suc, ◌≡◌, ◌≢◌, ◌+◌, ◌<◌, ◌≤◌, ◌⊎◌, List, [], ◌∷◌, ◌++◌, length, decimal, slice_index}
use Rattle.std.specs.List.{AllByRecursion}
use Rattle.bib_spec.specs.Bytes.{line_feed}
use Rattle.bib_spec.specs.Text.{Text}
use Rattle.bib_spec.specs.Pieces.{Piece, end_of}
use Rattle.history_spec.specs.Steps.{Step, IsLabel, AreWritable, piece_text, pieces_text, HasSmallNumbers}
use Rattle.journal_format.specs.Contents.{IsDigest}
use Rattle.journal_format.specs.JournalText.{version_line, IsKnown, counts_line, AreFew, IsSmall, numbers_line, AreNumbers, step_text_in, IsStepIn, steps_limit}
use Rattle.journal_format.specs.declared.version.Version.{Version}
use Rattle.journal_format.specs.declared.version.Version.TheVariants.{First, Second}

-- ---- lines

-- the text does not have this byte
abbrev pub IsFreeOf : ℕ → Text → Type 0
IsFreeOf byte text = AllByRecursion (λ b. b ≢ byte) text

-- the text before the first such byte, and the text after it
pub record IsCut (byte : ℕ) (text before after : Text) : Type 0 where
  pub whole : text ≡ before ++ byte ∷ after
  pub free : IsFreeOf byte before

-- the line is the line of a good value
abbrev pub IsLineOf : {A : Type 0} → (A → Text) → (A → Type 0) → Text → Type 0
IsLineOf {A} line_of Good line = (a : A) × Good a × (line ≡ line_of a)

-- the text begins with the line of this good value
pub record BeginsWith {A : Type 0} (line_of : A → Text) (Good : A → Type 0) (text : Text) (value : A) (rest : Text) : Type 0 where
  pub good : Good value
  pub whole : text ≡ line_of value ++ line_feed ∷ rest

-- the text ends without a line feed, so nothing is left
pub record IsUnended (text : Text) (left : ℕ) : Type 0 where
  pub free : IsFreeOf line_feed text
  pub end : left ≡ 0

-- the first line is another one, so it is left, with all after it
pub record HasOtherLine (IsLine : Text → Type 0) (text : Text) (left : ℕ) : Type 0 where
  pub line : Text
  pub rest : Text
  pub cut : IsCut line_feed text line rest
  pub other : IsLine line → ⊥
  pub all : left ≡ length text

-- the text does not begin with the line of a good value
abbrev pub HasWrongLine : {A : Type 0} → (A → Text) → (A → Type 0) → Text → ℕ → Type 0
HasWrongLine line_of Good text left = IsUnended text left ⊎ HasOtherLine (IsLineOf line_of Good) text left

-- the text begins with the line of a good value, and goes wrong after it
pub record IsWrongAfter {A : Type 0} (line_of : A → Text) (Good : A → Type 0) (Wrong : A → Text → ℕ → Type 0) (text : Text) (left : ℕ) : Type 0 where
  pub value : A
  pub rest : Text
  pub begins : BeginsWith line_of Good text value rest
  pub wrong : Wrong value rest left

-- the text should begin with the line of a good value, and then continue as that value requires: it does not
abbrev pub IsWrongFrom : {A : Type 0} → (A → Text) → (A → Type 0) → (A → Text → ℕ → Type 0) → Text → ℕ → Type 0
IsWrongFrom line_of Good Wrong text left = HasWrongLine line_of Good text left ⊎ IsWrongAfter line_of Good Wrong text left

-- ---- pieces

-- the text has at most `n` bytes, so it ends before `n` bytes and a line feed, and nothing is left
pub record IsCutShort (n : ℕ) (text : Text) (left : ℕ) : Type 0 where
  pub short : length text ≤ n
  pub end : left ≡ 0

-- the byte after the first `n` bytes is not a line feed, so it is left, with all after it
pub record LacksLineFeed (n : ℕ) (text : Text) (left : ℕ) : Type 0 where
  pub within : n < length text
  pub other : slice_index text n ≢ line_feed
  pub all : n + left ≡ length text

-- the text should begin with `n` bytes and a line feed: it does not
abbrev pub HasWrongBytes : ℕ → Text → ℕ → Type 0
HasWrongBytes n text left = IsCutShort n text left ⊎ LacksLineFeed n text left

-- the text should begin with a piece whose place is `from` or after it: it does not
abbrev pub IsWrongPiece : ℕ → Text → ℕ → Type 0
IsWrongPiece from = IsWrongFrom numbers_line (AreNumbers from) (λ n. HasWrongBytes (n.old_len + n.new_len))

-- a piece whose place is `from` or after it, and that can be written
pub record IsPieceFrom (from : ℕ) (p : Piece) : Type 0 where
  pub after : from ≤ p.place
  pub small : HasSmallNumbers p

-- the text begins with this piece
pub record BeginsWithPiece (from : ℕ) (text : Text) (p : Piece) (rest : Text) : Type 0 where
  pub good : IsPieceFrom from p
  pub whole : text ≡ piece_text p ++ rest

-- the text should begin with this number of pieces, the first of them at the place `from` or after it: one of them is wrong
abbrev pub AreWrongPieces : ℕ → ℕ → Text → ℕ → Type 0
AreWrongPieces zero from text left = ⊥
AreWrongPieces (suc n) from text left =
    IsWrongPiece from text left
    ⊎ ((p : Piece) × (rest : Text) × BeginsWithPiece from text p rest × AreWrongPieces n (end_of p) rest left)

-- the text should begin with the number of pieces in a line, and then that number of pieces: it does not
abbrev pub HasWrongPieces : Text → ℕ → Type 0
HasWrongPieces = IsWrongFrom decimal IsSmall (λ n. AreWrongPieces n 0)

-- the text begins with the number of these pieces in a line, and then the pieces
pub record BeginsWithPieces (text : Text) (pieces : List Piece) (rest : Text) : Type 0 where
  pub good : AreWritable pieces
  pub whole : text ≡ pieces_text pieces ++ rest

-- ---- steps

-- the text should begin with a step of this version: it does not
abbrev pub IsWrongStep : Version → Text → ℕ → Type 0
IsWrongStep First = HasWrongPieces
IsWrongStep Second = IsWrongFrom (λ label. label) IsLabel (λ label. HasWrongPieces)

-- the text begins with this step
pub record BeginsWithStep (version : Version) (text : Text) (step : Step) (rest : Text) : Type 0 where
  pub good : IsStepIn version step
  pub whole : text ≡ step_text_in version step ++ rest

-- the text should be this number of steps: one of them is wrong, or bytes are left after the last
abbrev pub AreWrongSteps : Version → ℕ → Text → ℕ → Type 0
AreWrongSteps version zero text left = (text ≢ []) × (left ≡ length text)
AreWrongSteps version (suc n) text left =
    IsWrongStep version text left
    ⊎ ((step : Step) × (rest : Text) × BeginsWithStep version text step rest × AreWrongSteps version n rest left)

-- the steps' texts are too long together, and all bytes after the limit are left
pub record AreTooLong (version : Version) (text : Text) (left : ℕ) : Type 0 where
  pub long : steps_limit version < length text
  pub all : steps_limit version + left ≡ length text

-- the steps' texts are not too long together, but one of them is wrong
pub record AreShortButWrong (version : Version) (n : ℕ) (text : Text) (left : ℕ) : Type 0 where
  pub short : length text ≤ steps_limit version
  pub wrong : AreWrongSteps version n text left

-- the text should be the text of `n` steps: it is too long, or else it is not the text of `n` steps
abbrev pub IsWrongTail : Version → ℕ → Text → ℕ → Type 0
IsWrongTail version n text left = AreTooLong version text left ⊎ AreShortButWrong version n text left

-- ---- journals

-- the text should be a journal from its third line on: it is not
abbrev pub IsWrongFromCounts : Version → Text → ℕ → Type 0
IsWrongFromCounts version = IsWrongFrom counts_line AreFew (λ n. IsWrongTail version (n.undos + n.redos))

-- the text should be a journal from its second line on: it is not
abbrev pub IsWrongFromDigest : Version → Text → ℕ → Type 0
IsWrongFromDigest version = IsWrongFrom (λ digest. digest) IsDigest (λ digest. IsWrongFromCounts version)

-- the text should be a journal, of either version: it is not
abbrev pub IsWrongJournal : Text → ℕ → Type 0
IsWrongJournal = IsWrongFrom version_line IsKnown IsWrongFromDigest

-- the text goes wrong at this place
pub record GoesWrongAt (text : Text) (place : ℕ) : Type 0 where
  pub left : ℕ
  pub wrong : IsWrongJournal text left
  pub all : place + left ≡ length text
