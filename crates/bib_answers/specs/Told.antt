-- No promise rests on this page: it says what `lint` has written of missing keys after the first citations.
use Rattle.std.specs.Prelude.{◌≡◌, ◌++◌, List, bytes_eq, filter}
use Rattle.std.specs.List.{flat_map, list_any}
use Rattle.bib_spec.specs.Text.{Text, folded, same}
use Rattle.bib_spec.specs.Records.{EntryTexts}
use Rattle.bib_answers.specs.Lint.{Citation, is_missing, missing_among, missing_line}

-- The lines of the keys among these citations that no entry has were written after `start`, and their keys were told.
pub record HaveTold (entries : List EntryTexts) (start : Text) (before : List Citation) (text : Text) (told : List Text) : Type 0 where
  pub text_is : text ≡ start ++ flat_map missing_line (missing_among entries before)
  pub told_are : (key : Text) → list_any (bytes_eq (folded key)) told ≡ list_any (λ cited. same key cited.1.key) (filter (is_missing entries) before)
