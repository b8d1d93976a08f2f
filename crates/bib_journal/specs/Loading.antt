-- What a journal is to a session: what is saved, and what is loaded. (dialect)
use Rattle.std.specs.Prelude.{◌≡◌, ◌<◌, ◌≤◌, List, [], ◌∷◌, length, sum_by, All}
use Rattle.std.specs.List.{AllByRecursion}
use Rattle.bib_spec.specs.Bytes.{file_limit}
use Rattle.bib_spec.specs.Text.{Text}
use Rattle.bib_spec.specs.Pieces.{Piece, IsAscending, applied}
use Rattle.bib_spec.specs.Texts.{IsOpenable}
use Rattle.history_spec.specs.Steps.{Step, KeptSteps, BelongTo}
use Rattle.bib_pieces.specs.Reversing.{new_bytes_limit}
use Rattle.journal_format.specs.Contents.{Contents, digest_of}
use Rattle.journal_format.specs.Faults.{IsTextOf, IsJournalOf}
use Rattle.bib_journal.specs.declared.saving.Saved.{Saved}

-- what a session's journal says: the digest of the present file, and the steps
abbrev pub contents_of : KeptSteps → Contents
contents_of kept = record { digest = digest_of kept.present; past = kept.past; future = kept.future }

-- The contents fit the file, which opens: the digest is the file's, and back through the past and on through the future each
-- step's pieces fit and each file reached opens.
pub record FitFile (c : Contents) (file : Text) : Type 0 where
  pub opens : IsOpenable file
  pub digest : c.digest ≡ digest_of file
  pub belong : BelongTo c.past c.future file

-- what is kept is in this file and this journal, which is written in the newest version
pub record Saves (kept : KeptSteps) (saved : Saved) : Type 0 where
  pub file : saved.file ≡ kept.present
  pub journal : IsTextOf (contents_of kept) saved.journal

-- the session has this file, and its journal is this text, which fits the file
pub record Loads (file text : Text) (kept : KeptSteps) : Type 0 where
  pub present : kept.present ≡ file
  pub journal : IsJournalOf (contents_of kept) text
  pub fit : FitFile (contents_of kept) file

-- the text is the journal of these contents, which fit the file
pub record SaysOf (file text : Text) (c : Contents) : Type 0 where
  pub journal : IsJournalOf c text
  pub fit : FitFile c file

-- the file opens, and the text is a journal, but it does not fit the file
pub record IsMismatch (file text : Text) : Type 0 where
  pub opens : IsOpenable file
  pub contents : Contents
  pub journal : IsJournalOf contents text
  pub misfit : FitFile contents file → ⊥

-- the file to which the steps lead on from this one
abbrev pub last_of : List Step → Text → Text
last_of [] file = file
last_of (step ∷ steps) file = last_of steps (applied step.pieces file)

-- the way back can be computed
pub record IsTurnable (pieces : List Piece) : Type 0 where
  pub ascending : IsAscending pieces
  pub places : All (λ p. p.place ≤ file_limit) pieces
  pub new_bytes : sum_by (λ p. length p.new) pieces < new_bytes_limit

-- that of each step can
abbrev pub AreTurnable : List Step → Type 0
AreTurnable steps = AllByRecursion (λ step. IsTurnable step.pieces) steps
