-- The lines of findings, as the code keeps them.
use Rattle.std.specs.Prelude.{ℕ, List, ◌++◌}
use Rattle.std.specs.List.{flat_map}
use Rattle.bib_spec.specs.Text.{Text}
use Rattle.bib_answers.specs.Lint.{Finding, finding_line}

-- the codes that are ignored, the names and bytes of the files, where the item that is looked at begins, and the lines so far
pub record Written : Type 0 where
  pub ignored : List Text
  pub names : List Text
  pub files : List Text
  pub start : ℕ
  pub text : Text

-- the same lines, at an item that begins there
abbrev pub at_item : Written → ℕ → Written
at_item w start = record w { start = start }

-- with the lines of these findings added, but for those whose codes are ignored
abbrev pub with_findings : Written → List Finding → Written
with_findings w findings = record w { text = w.text ++ flat_map (finding_line w.ignored w.names w.files w.start) findings }
