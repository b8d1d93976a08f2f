-- New keys beside the old ones, one after another.
use Rattle.bib_answers.proofs.Words.{◌≡◌, ◌∙◌, ℕ, ◌+◌, ◌≤◌, ◌<◌, List, [], ◌++◌, length, take, get_or, zip, min, slice_get, Option, Some, option_map, sym, ap, flat_map, option_map_or, length-map, slice_get-map, get_or_from_slice_get, Text, EntryTexts, keys_of, next-of, key_at, new_key_line}
use Rattle.std.proofs.Common.{arith}
use Rattle.bib_answers.specs.NewKeys.{new_key_lines}
use Rattle.bib_answers.proofs.LabelLines.{label_more, labels_all}

abbrev key_in : EntryTexts → Text
key_in entry = entry.key

-- the key of an entry stands at its number among the keys
key_among : (entries : List EntryTexts) (n : ℕ) (key : Text) → n < length entries → key ≡ key_at entries n → key ≡ get_or (keys_of entries) n key
key_among entries n key within is =
    let entry = next-of entries n within in
    let at : slice_get (keys_of entries) n ≡ Some (key_in entry.0) = slice_get-map key_in entries n ∙ ap (option_map key_in) entry.1 in
    is ∙ ap (λ (o : Option EntryTexts). option_map_or key_in o []) entry.1 ∙ sym (get_or_from_slice_get (keys_of entries) n (key_in entry.0) key at)

-- one more entry
pub new_keys_more : (entries : List EntryTexts) (new : List Text) (n : ℕ) (old made : Text) → n < min (length new) (length entries) → old ≡ key_at entries n → made ≡ get_or new n made
    → flat_map new_key_line (take n (zip (keys_of entries) new)) ++ new_key_line (old, made) ≡ flat_map new_key_line (take (n + 1) (zip (keys_of entries) new))
new_keys_more entries new n old made within is also =
    label_more (keys_of entries) new n old made (omega (arith, within, length-map entries key_in)) (key_among entries n old (omega (arith, within)) is) also

pub new_keys_all : (entries : List EntryTexts) (new : List Text) (n : ℕ) → min (length new) (length entries) ≤ n → flat_map new_key_line (take n (zip (keys_of entries) new)) ≡ new_key_lines (keys_of entries) new
new_keys_all entries new n end = ap (flat_map new_key_line) (labels_all (keys_of entries) new n (omega (arith, end, length-map entries key_in)))
