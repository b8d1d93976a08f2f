-- No promise rests on this page: it says what `lint` has written after the first items of a file.
use Rattle.std.specs.Prelude.{ℕ, ◌≡◌, ◌≤◌, ◌++◌, List}
use Rattle.std.specs.List.{flat_map, range_with_len}
use Rattle.bib_spec.specs.Text.{Text}
use Rattle.bib_spec.specs.Records.{entries_of}
use Rattle.bib_scan.specs.Layout.{start_of}
use Rattle.bib_store.specs.Readings.{OfReading}
use Rattle.bib_answers.specs.Check.{entries_before}
use Rattle.bib_answers.specs.Lint.{has_empty_parents, front_lines, item_lines}
use Rattle.bib_answers.specs.declared.lint.Found.{Found}

-- the lines of the front and of the first n items of the file were written
pub record IsLintedBefore (file : Text) (ignored names files : List Text) (n : ℕ) (found : Found) : Type 0 where
  pub ignored_are : found.lines.ignored ≡ ignored
  pub names_are : found.lines.names ≡ names
  pub files_are : found.lines.files ≡ files
  pub text : OfReading file (λ r. found.lines.text ≡ front_lines ignored names files r ++ flat_map (item_lines ignored names files r) (range_with_len 0 n))
  pub entries : OfReading file (λ r. found.entries ≡ entries_before r n)
  pub few_entries : found.entries ≤ n
  pub place : OfReading file (λ r. found.place ≡ start_of r n)
  pub empty_parents : OfReading file (λ r. found.empty_parents ≡ has_empty_parents (entries_of r))
