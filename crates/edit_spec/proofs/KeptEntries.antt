-- Entries whose texts change, but neither their keys nor their crossrefs: parents and cited lists are what they were.
use Rattle.edit_spec.proofs.Words.{◌≡◌, ◌==◌, ℕ, false, not, ◌&&◌, nat_le, List, ◌++◌, Option, option_map, option_and_then, slice_get, ⊎_elim, sym, ◌∙◌, ap, ap₂, map, filter, count_by, length, list_any, option_map_or, fun_ext, filter_map, is_none, enumerate_from, crossref_text, Text, EntryTexts, keys_of, first_named, target_of, target, other_than, parent, listed, unknown, option_cases}
use Rattle.std.proofs.Common.{[], if◌then◌else◌}
use Rattle.std.specs.List.{range_with_len}
use Rattle.bib_spec.specs.Records.{once, numbers_of, with_parents, cited_by_key, cites_all}

module _ (become : ℕ → EntryTexts → EntryTexts) (entries new : List EntryTexts) (keys : keys_of new ≡ keys_of entries)
    (at : (n : ℕ) → slice_get new n ≡ option_map (become n) (slice_get entries n))
    (crossrefs : (n : ℕ) (entry : EntryTexts) → crossref_text (become n entry) ≡ crossref_text entry)
  where
    target-kept : (n : ℕ) → target new n ≡ target entries n
    target-kept n = ap (option_and_then (target_of new)) (at n) ∙ ⊎_elim
        (λ none. ap (λ o. option_and_then (target_of new) (option_map (become n) o)) none ∙ sym (ap (option_and_then (target_of entries)) none))
        (λ some. ap (λ o. option_and_then (target_of new) (option_map (become n) o)) some.1
        ∙ ap₂ (λ keys text. option_and_then (λ t. first_named t keys) text) keys (crossrefs n some.0)
        ∙ sym (ap (option_and_then (target_of entries)) some.1))
        (option_cases (slice_get entries n))

    pub parent-kept : (n : ℕ) → parent new n ≡ parent entries n
    parent-kept n = ap (option_and_then (other_than n)) (target-kept n)

    -- the listed entries and their parents, from each entry's parent and all numbers
    abbrev added : (ℕ → Option ℕ) → List ℕ → ℕ → List ℕ → List ℕ
    added parents numbers min listed =
        listed ++ filter (λ m. not (list_any (λ n. n == m) listed) && nat_le min (count_by (λ n. option_map_or (λ p. p == m) (parents n) false) listed)) numbers

    pub listed-kept : length new ≡ length entries → (cited : List Text) (min : ℕ) → listed new cited min ≡ listed entries cited min
    listed-kept long cited min =
        ap₂ (λ parents numbers. if cites_all cited then numbers else added parents numbers min (cited_by_key new cited)) (fun_ext parent-kept) (ap (range_with_len 0) long)
        ∙ ap (λ keys. if cites_all cited then numbers_of entries else with_parents entries min (once (filter_map (λ t. first_named t keys) cited))) keys

    pub unknown-kept : (cited : List Text) → unknown new cited ≡ unknown entries cited
    unknown-kept cited = ap (λ keys. if cites_all cited then [] else map (λ p. p.0) (filter (λ p. is_none (first_named p.1 keys)) (enumerate_from 0 cited))) keys
