-- The text of a journal: version 2, in which each step begins with its label, and version 1, which has no labels. (dialect)
use Rattle.std.specs.Prelude.{ℕ, ◌≡◌, ◌+◌, ◌≤◌, [], ◌∷◌, ◌++◌, length, sum_by, decimal, codes}
use Rattle.std.specs.List.{AllByRecursion, flat_map}
use Rattle.bib_spec.specs.Bytes.{line_feed, space}
use Rattle.bib_spec.specs.Text.{Text}
use Rattle.bib_spec.specs.Pieces.{Piece}
use Rattle.history_spec.specs.Steps.{Step, IsStep, pieces_text, step_text, step_texts_limit, number_limit, change_limit}
use Rattle.journal_format.specs.Contents.{Contents, AreContents}
use Rattle.journal_format.specs.declared.version.Version.{Version}
use Rattle.journal_format.specs.declared.version.Version.TheVariants.{First, Second}

-- ---- lines

-- the first line
unfoldable pub version_line : Version → Text
version_line First = codes "bibkeep 1"
version_line Second = codes "bibkeep 2"

-- both versions can be read
abbrev pub IsKnown : Version → Type 0
IsKnown version = Unit {0}

-- the number of changes that can be undone, and the number of changes that can be redone
pub record Counts : Type 0 where
  pub undos : ℕ
  pub redos : ℕ

-- these two numbers of changes
abbrev pub counts : ℕ → ℕ → Counts
counts undos redos = record { undos = undos; redos = redos }

-- both numbers, separated by a space
abbrev pub counts_line : Counts → Text
counts_line n = decimal n.undos ++ space ∷ decimal n.redos

-- there are no more changes than can be kept
abbrev pub AreFew : Counts → Type 0
AreFew n = n.undos + n.redos ≤ change_limit

-- a step can have this number of pieces
abbrev pub IsSmall : ℕ → Type 0
IsSmall n = n ≤ number_limit

-- the place of a piece, and the lengths of its old and its new bytes
pub record Numbers : Type 0 where
  pub place : ℕ
  pub old_len : ℕ
  pub new_len : ℕ

-- these three numbers
abbrev pub numbers : ℕ → ℕ → ℕ → Numbers
numbers place old_len new_len = record { place = place; old_len = old_len; new_len = new_len }

-- the three numbers, separated by spaces
abbrev pub numbers_line : Numbers → Text
numbers_line n = decimal n.place ++ space ∷ (decimal n.old_len ++ space ∷ decimal n.new_len)

-- the three numbers of this piece
abbrev pub numbers_of : Piece → Numbers
numbers_of p = numbers p.place (length p.old) (length p.new)

-- numbers of a piece that begins at the place `from` or after it; none is too great to be written
pub record AreNumbers (from : ℕ) (n : Numbers) : Type 0 where
  pub after : from ≤ n.place
  pub place : n.place ≤ number_limit
  pub old_len : n.old_len ≤ number_limit
  pub new_len : n.new_len ≤ number_limit

-- the longest journal, in bytes: the lines of the version and the digest, the longest line of counts, and the steps
-- (dialect)
abbrev pub journal_limit : ℕ
journal_limit = 67174486

-- ---- steps

-- the text of a step in a journal of this version
abbrev pub step_text_in : Version → Step → Text
step_text_in First step = pieces_text step.pieces
step_text_in Second step = step_text step

-- a step that a journal of this version can have
abbrev pub IsStepIn : Version → Step → Type 0
IsStepIn First step = IsStep step × (step.label ≡ [])
IsStepIn Second step = IsStep step

-- the greatest length of the texts of all steps together in a journal of this version, in bytes
abbrev pub steps_limit : Version → ℕ
steps_limit First = 67108864
steps_limit Second = step_texts_limit

-- ---- the whole

-- the line of the version, the line of the digest and the line of the counts
abbrev pub head_text : Text → Counts → Text
head_text digest n = version_line Second ++ line_feed ∷ (digest ++ line_feed ∷ (counts_line n ++ line_feed ∷ []))

-- The line of the version, the line of the digest and the line of the counts; then the past steps, and the future steps.
unfoldable pub text_in : Version → Contents → Text
text_in version c =
    version_line version
    ++ line_feed ∷ (c.digest
    ++ line_feed ∷ (counts_line (counts (length c.past) (length c.future))
    ++ line_feed ∷ (flat_map (step_text_in version) c.past ++ flat_map (step_text_in version) c.future)))

-- the text that is written: the text in version 2
abbrev pub journal_text : Contents → Text
journal_text c = text_in Second c

-- contents that a journal of this version can have: version 1 has no labels, and a lower limit
pub record AreContentsIn (version : Version) (c : Contents) : Type 0 where
  pub good : AreContents c
  pub past_steps : AllByRecursion (IsStepIn version) c.past
  pub future_steps : AllByRecursion (IsStepIn version) c.future
  pub short : sum_by (λ step. length (step_text_in version step)) c.past + sum_by (λ step. length (step_text_in version step)) c.future ≤ steps_limit version
