-- The keys of entries, one after another.
use Rattle.bib_answers.proofs.Words.{◌≡◌, ◌∙◌, ℕ, ◌+◌, ◌≤◌, ◌<◌, List, [], ◌++◌, length, take, get_or, slice_get, Option, Some, option_map, sym, ap, option_map_or, length-map, slice_get-map, get_or_from_slice_get, take_all, Text, EntryTexts, keys_of, next-of, key_at}
use Rattle.std.proofs.Common.{arith}
use Rattle.bib_answers.proofs.LineLists.{lines_more}
use Rattle.bib_state.specs.Telling.{key_line, key_lines}

abbrev key_in : EntryTexts → Text
key_in entry = entry.key

-- one more key
pub keys_more : (entries : List EntryTexts) (n : ℕ) (key : Text) → n < length entries → key ≡ key_at entries n
    → key_lines (take n (keys_of entries)) ++ key_line key ≡ key_lines (take (n + 1) (keys_of entries))
keys_more entries n key within is =
    let entry = next-of entries n within in
    let at : slice_get (keys_of entries) n ≡ Some (key_in entry.0) = slice_get-map key_in entries n ∙ ap (option_map key_in) entry.1 in
    let among : key ≡ get_or (keys_of entries) n key = is ∙ ap (λ (o : Option EntryTexts). option_map_or key_in o []) entry.1 ∙ sym (get_or_from_slice_get (keys_of entries) n (key_in entry.0) key at) in
    ap (λ (k : Text). key_lines (take n (keys_of entries)) ++ key_line k) among
    ∙ lines_more key_line (keys_of entries) n key (omega (arith, within, length-map entries key_in))

-- all keys
pub keys_all : (entries : List EntryTexts) (n : ℕ) → length entries ≤ n → key_lines (take n (keys_of entries)) ≡ key_lines (keys_of entries)
keys_all entries n end = ap key_lines (take_all n (keys_of entries) (omega (arith, end, length-map entries key_in)))
