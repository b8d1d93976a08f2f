-- Keys that dangling crossrefs wait for, and keys in use.
use Rattle.std.specs.Prelude.{Bool, ◌&&◌, ◌||◌, not, List}
use Rattle.std.specs.List.{list_any}
use Rattle.bib_spec.specs.Text.{Text, same}
use Rattle.bib_spec.specs.Records.{EntryTexts, keys_of, is_named, dangling_texts}

-- a dangling crossref waits for the key
abbrev pub is_awaited : Text → List EntryTexts → Bool
is_awaited key entries = list_any (same key) (dangling_texts entries)

-- another entry than those that the old key names has the new one, or a dangling crossref waits for it
abbrev pub is_in_use : Text → Text → List EntryTexts → Bool
is_in_use from to entries = list_any (λ key. same to key && not (is_named from key)) (keys_of entries) || is_awaited to entries
