-- Keys that no entry has, one key after another.
use Rattle.std.proofs.Common.{◌≡◌, ◌∙◌, ℕ, suc, ◌+◌, ◌≤◌, Bool, true, false, cond, not, ◌&&◌, List, [], ◌∷◌, ◌++◌, Option, Some, None, is_none, is_some, slice_get, length, take, map, filter, refl, sym, ap, arith}
use Rattle.std.specs.List.{enumerate_from, cons_option}
use Rattle.std.proofs.lemmas.List.{append-nil, take_all, length-take-le}
use Rattle.std.proofs.lemmas.List.Elements.{filter-append}
use Rattle.std.proofs.lemmas.Option.{slice_get_within}
use Rattle.bib_spec.specs.Text.{Text}
use Rattle.bib_spec.specs.Records.{EntryTexts, keys_of}
use Rattle.bibtex_spec.specs.Places.{is_star}
use Rattle.bibtex_spec.specs.Listed.{first_same, is_missing}
use Rattle.bibtex_places.specs.KeyTables.{Numbers, number_of, FindsKeys}
use Rattle.bibtex_places.specs.Lists.{is_unknown, unknown_places}
use Rattle.bibtex_places.proofs.Keys.{any_first}
use Rattle.bibtex_places.proofs.ListedEntries.{take_next}

-- a key that the table of all keys does not find is missing
pub missing_is : (table : Numbers) (entries : List EntryTexts) (key : Text) → FindsKeys table (keys_of entries) → is_missing entries key ≡ is_none (number_of table key)
missing_is table entries key finds = ap not (any_first key (keys_of entries)) ∙ at (first_same key (keys_of entries)) ∙ ap (λ (o : Option ℕ). is_none o) (sym (finds key))
  where
    at : (o : Option ℕ) → not (is_some o) ≡ is_none o
    at None = refl
    at (Some i) = refl

abbrev numbers : List (ℕ × Text) → List ℕ
numbers ps = map (λ p. p.0) ps

enumerate_push : (from : ℕ) (keys : List Text) (key : Text) → enumerate_from from (keys ++ key ∷ []) ≡ enumerate_from from keys ++ (from + length keys, key) ∷ []
enumerate_push from [] key = let e : from ≡ from + 0 = omega arith in ap (λ n. (n, key) ∷ []) e
enumerate_push from (first ∷ keys) key =
    let e : from + 1 + length keys ≡ from + suc (length keys) = omega arith in
    ap (λ l. (from, first) ∷ l) (enumerate_push (from + 1) keys key ∙ ap (λ n. enumerate_from (from + 1) keys ++ (n, key) ∷ []) e)

map_push : (xs ys : List (ℕ × Text)) → numbers (xs ++ ys) ≡ numbers xs ++ numbers ys
map_push [] ys = refl
map_push (x ∷ xs) ys = ap (λ l. x.0 ∷ l) (map_push xs ys)

unknown_after : (entries : List EntryTexts) (keys : List Text) (i : ℕ) (key : Text) → slice_get keys i ≡ Some key
    → unknown_places entries (take (i + 1) keys) ≡ unknown_places entries (take i keys) ++ numbers (cond (is_unknown entries key) ((i, key) ∷ []) [])
unknown_after entries keys i key at =
    let test : ℕ × Text → Bool = λ p. is_unknown entries p.1 in
    let lt = slice_get_within keys i key at in
    let place : 0 + length (take i keys) ≡ i = omega (arith, length-take-le i keys (omega (arith, lt))) in
    ap (unknown_places entries) (take_next keys i key at)
    ∙ ap (λ (l : List (ℕ × Text)). numbers (filter test l)) (enumerate_push 0 (take i keys) key ∙ ap (λ n. enumerate_from 0 (take i keys) ++ (n, key) ∷ []) place)
    ∙ ap numbers (filter-append test (enumerate_from 0 (take i keys)) ((i, key) ∷ []))
    ∙ map_push (filter test (enumerate_from 0 (take i keys))) (cond (is_unknown entries key) ((i, key) ∷ []) [])

pub unknown_more : (entries : List EntryTexts) (keys : List Text) (i : ℕ) (key : Text) (unknown : List ℕ) → slice_get keys i ≡ Some key → unknown ≡ unknown_places entries (take i keys) → is_unknown entries key ≡ true
    → unknown ++ i ∷ [] ≡ unknown_places entries (take (i + 1) keys)
unknown_more entries keys i key unknown at h e =
    ap (λ l. l ++ i ∷ []) h
    ∙ sym (unknown_after entries keys i key at ∙ ap (λ (b : Bool). unknown_places entries (take i keys) ++ numbers (cond b ((i, key) ∷ []) [])) e)

pub unknown_same : (entries : List EntryTexts) (keys : List Text) (i : ℕ) (key : Text) (unknown : List ℕ) → slice_get keys i ≡ Some key → unknown ≡ unknown_places entries (take i keys) → is_unknown entries key ≡ false
    → unknown ≡ unknown_places entries (take (i + 1) keys)
unknown_same entries keys i key unknown at h e =
    h
    ∙ sym (unknown_after entries keys i key at ∙ ap (λ (b : Bool). unknown_places entries (take i keys) ++ numbers (cond b ((i, key) ∷ []) [])) e ∙ append-nil (unknown_places entries (take i keys)))

pub unknown_all : (entries : List EntryTexts) (keys : List Text) (i : ℕ) (unknown : List ℕ) → unknown ≡ unknown_places entries (take i keys) → length keys ≤ i → unknown ≡ unknown_places entries keys
unknown_all entries keys i unknown h le = h ∙ ap (unknown_places entries) (take_all i keys le)

pub unknown_next : (entries : List EntryTexts) (keys : List Text) (i : ℕ) (key : Text) (unknown more : List ℕ) (o : Option ℕ) → slice_get keys i ≡ Some key → unknown ≡ unknown_places entries (take i keys)
    → o ≡ cond (is_unknown entries key) (Some i) None → more ≡ unknown ++ cons_option o [] → more ≡ unknown_places entries (take (i + 1) keys)
unknown_next entries keys i key unknown more o at h is pushed = pushed ∙ ap (λ q. unknown ++ cons_option q []) is ∙ by (is_unknown entries key) refl
  where
    by : (b : Bool) → is_unknown entries key ≡ b → unknown ++ cons_option (cond b (Some i) None) [] ≡ unknown_places entries (take (i + 1) keys)
    by true e = unknown_more entries keys i key unknown at h e
    by false e = append-nil unknown ∙ unknown_same entries keys i key unknown at h e

pub star_known : (entries : List EntryTexts) (key : Text) → is_star key ≡ true → false ≡ is_unknown entries key
star_known entries key e = sym (ap (λ (b : Bool). not b && is_missing entries key) e)

pub found_known : (table : Numbers) (entries : List EntryTexts) (key : Text) → FindsKeys table (keys_of entries) → is_some (number_of table key) ≡ true → false ≡ is_unknown entries key
found_known table entries key finds e =
    sym (ap (λ (b : Bool). not (is_star key) && not b) (any_first key (keys_of entries) ∙ ap (λ (o : Option ℕ). is_some o) (sym (finds key)) ∙ e) ∙ at (is_star key))
  where
    at : (b : Bool) → (not b && false) ≡ false
    at true = refl
    at false = refl

pub lost_unknown : (table : Numbers) (entries : List EntryTexts) (key : Text) → FindsKeys table (keys_of entries) → is_star key ≡ false → is_some (number_of table key) ≡ false → true ≡ is_unknown entries key
lost_unknown table entries key finds star e =
    sym (
    ap (λ (b : Bool). not b && is_missing entries key) star
    ∙ ap not (any_first key (keys_of entries) ∙ ap (λ (o : Option ℕ). is_some o) (sym (finds key)) ∙ e))
