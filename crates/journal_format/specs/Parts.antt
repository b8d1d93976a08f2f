-- The contents of a journal's text from a line on.
use Rattle.std.specs.Prelude.{◌≡◌, ◌≤◌, ◌++◌, ◌∷◌, List, length}
use Rattle.std.specs.List.{AllByRecursion, flat_map}
use Rattle.bib_spec.specs.Bytes.{line_feed}
use Rattle.bib_spec.specs.Text.{Text}
use Rattle.history_spec.specs.Steps.{Step}
use Rattle.journal_format.specs.Contents.{Contents, IsDigest}
use Rattle.journal_format.specs.JournalText.{Counts, counts, counts_line, AreFew, step_text_in, IsStepIn, steps_limit}
use Rattle.journal_format.specs.declared.version.Version.{Version}

-- the text is the text of these steps; their numbers are the counts, and the text is within the limit of the version
pub record IsTailOf (version : Version) (n : Counts) (text : Text) (past future : List Step) : Type 0 where
  pub whole : text ≡ flat_map (step_text_in version) past ++ flat_map (step_text_in version) future
  pub undos : length past ≡ n.undos
  pub redos : length future ≡ n.redos
  pub past_steps : AllByRecursion (IsStepIn version) past
  pub future_steps : AllByRecursion (IsStepIn version) future
  pub short : length text ≤ steps_limit version

-- the text is a journal with these contents, from the line of the counts on
pub record IsFromCounts (version : Version) (digest text : Text) (c : Contents) : Type 0 where
  pub same : c.digest ≡ digest
  pub few : AreFew (counts (length c.past) (length c.future))
  pub rest : Text
  pub whole : text ≡ counts_line (counts (length c.past) (length c.future)) ++ line_feed ∷ rest
  pub tail : IsTailOf version (counts (length c.past) (length c.future)) rest c.past c.future

-- the text is a journal with these contents, from the line of the digest on
pub record IsFromDigest (version : Version) (text : Text) (c : Contents) : Type 0 where
  pub good : IsDigest c.digest
  pub rest : Text
  pub whole : text ≡ c.digest ++ line_feed ∷ rest
  pub tail : IsFromCounts version c.digest rest c
