-- No promise rests on this page: it says what `check` has found after the first items of a file.
use Rattle.std.specs.Prelude.{ℕ, ◌≡◌, ◌≤◌, take, count_by}
use Rattle.std.specs.List.{flat_map, range_with_len}
use Rattle.bib_spec.specs.Text.{Text}
use Rattle.bib_spec.specs.Tree.{is_comment}
use Rattle.bib_store.specs.Readings.{OfReading}
use Rattle.bib_definitions.specs.Definitions.{is_definition_tree}
use Rattle.bib_answers.specs.Check.{entries_before, reports_on}
use Rattle.bib_answers.specs.declared.check.Found.{Found}

-- what was found in the first n items of the file
pub record IsFoundBefore (file : Text) (n : ℕ) (found : Found) : Type 0 where
  pub reports : OfReading file (λ r. found.reports.items ≡ flat_map (reports_on r) (range_with_len 0 n))
  pub entries : OfReading file (λ r. found.entries ≡ entries_before r n)
  pub definitions : OfReading file (λ r. found.definitions ≡ count_by (λ item. is_definition_tree item.tree) (take n r.items))
  pub comments : OfReading file (λ r. found.comments ≡ count_by (λ item. is_comment item.tree) (take n r.items))
  pub few_entries : found.entries ≤ n
  pub few_definitions : found.definitions ≤ n
  pub few_comments : found.comments ≤ n
