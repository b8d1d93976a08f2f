-- Crossrefs that name no entry.
use Rattle.std.specs.Prelude.{ℕ, List, Option, option_and_then, slice_get}
use Rattle.bib_spec.specs.Text.{Text}
use Rattle.bib_spec.specs.Records.{EntryTexts, dangling_text}

-- the crossref text of entry n, if it names no entry
abbrev pub dangling_at : List EntryTexts → ℕ → Option Text
dangling_at entries n = option_and_then (dangling_text entries) (slice_get entries n)
