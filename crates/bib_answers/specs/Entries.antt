-- What is told of an entry by its number.
use Rattle.std.specs.Prelude.{ℕ, List, [], slice_get}
use Rattle.std.specs.Option.{option_map_or}
use Rattle.bib_spec.specs.Text.{Text}
use Rattle.bib_spec.specs.Records.{EntryTexts}

-- the key of entry n, as it is written
abbrev pub key_at : List EntryTexts → ℕ → Text
key_at entries n = option_map_or (λ entry. entry.key) (slice_get entries n) []
