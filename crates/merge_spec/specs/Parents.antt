-- Which entries of a merge have lost the parent that they have on the side that they come from.
use Rattle.std.specs.Prelude.{ℕ, Bool, false, ◌&&◌, List, [], ◌∷◌, length, Option, Some, None, is_some, is_none, slice_get, option_and_then, if◌then◌else◌}
use Rattle.std.specs.List.{flat_map, range_with_len}
use Rattle.std.specs.Option.{option_map_or}
use Rattle.bib_spec.specs.Text.{Text, same}
use Rattle.bib_spec.specs.Records.{EntryTexts, crossref_text, entry_named, target}

-- whether the crossref of entry m of a side names an entry there, if it says this text
abbrev pub named_at : List EntryTexts → Text → ℕ → Option Bool
named_at side text m = option_and_then (λ other. if same other text then Some (is_some (target side m)) else None) (option_and_then crossref_text (slice_get side m))

-- the same of the entry that this key finds, if the side has one
abbrev pub named_on : List EntryTexts → Text → Text → Option Bool
named_on side key text = option_and_then (named_at side text) (entry_named side key)

-- of two sides, one at least has the crossref, and it names an entry on each that has it
abbrev pub named_on_both : Option Bool → Option Bool → Bool
named_on_both None None = false
named_on_both None (Some theirs) = theirs
named_on_both (Some ours) None = ours
named_on_both (Some ours) (Some theirs) = ours && theirs

-- the key of entry n
abbrev pub key_at : List EntryTexts → ℕ → Text
key_at entries n = option_map_or (λ entry. entry.key) (slice_get entries n) []

-- The crossref of entry n of the merge names no entry there, and on each side that it comes from it names one. It comes from a side
-- if the entry that its key finds there says the same crossref. (dialect)
abbrev pub is_lost : List EntryTexts → List EntryTexts → List EntryTexts → ℕ → Bool
is_lost ours theirs merged n =
    is_none (target merged n)
    && option_map_or (λ text. named_on_both (named_on ours (key_at merged n) text) (named_on theirs (key_at merged n) text)) (option_and_then crossref_text (slice_get merged n)) false

-- the key of entry n of the merge, if it has lost its parent
abbrev pub lost_key : List EntryTexts → List EntryTexts → List EntryTexts → ℕ → List Text
lost_key ours theirs merged n = if is_lost ours theirs merged n then key_at merged n ∷ [] else []

-- the keys of the entries of the merge that have lost their parents, in order
abbrev pub lost_keys : List EntryTexts → List EntryTexts → List EntryTexts → List Text
lost_keys ours theirs merged = flat_map (lost_key ours theirs merged) (range_with_len 0 (length merged))
