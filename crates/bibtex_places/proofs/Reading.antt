-- Places as entries are read, one after another.
use Rattle.std.proofs.Common.{◌≡◌, ◌∙◌, ℕ, zero, suc, ◌+◌, ◌≤◌, List, [], ◌∷◌, ◌++◌, Some, slice_get, length, take, drop, map, sym, ap, subst, arith}
use Rattle.std.proofs.lemmas.List.{drop_all, map_push, length-take-le, length-map}
use Rattle.std.proofs.lemmas.Option.{none-some, same_Some, slice_get_within}
use Rattle.bib_spec.specs.Text.{Text}
use Rattle.bib_spec.specs.Records.{EntryTexts, keys_of}
use Rattle.bibtex_spec.specs.Places.{Place, cited_place, cited_keys, read_entry, read_entries, read_any, read_all}
use Rattle.bibtex_places.specs.Steps.{with_cited, CountsAtMost}
use Rattle.bibtex_places.specs.declared.lists.EntryKey.{EntryKey}
use Rattle.bibtex_places.specs.KeyTables.{Numbers, FindsKeys}
use Rattle.bibtex_places.specs.Lists.{AreKeysOf}
use Rattle.bibtex_places.proofs.Entries.{given_at}
use Rattle.bibtex_places.proofs.Keys.{cited_more}
use Rattle.bibtex_places.proofs.ListedEntries.{take_next}

drop_suc : {X : Type 0} (xs : List X) (i : ℕ) (x : X) → slice_get xs i ≡ Some x → drop i xs ≡ x ∷ drop (suc i) xs
drop_suc [] i x at = absurd (none-some x at)
drop_suc {X} (y ∷ xs) zero x at = ap (λ (z : X). z ∷ xs) (same_Some y x at)
drop_suc (y ∷ xs) (suc i) x at = drop_suc xs i x at

pub drop_next : {X : Type 0} (xs : List X) (i : ℕ) (x : X) → slice_get xs i ≡ Some x → drop i xs ≡ x ∷ drop (i + 1) xs
drop_next xs i x at = let e : suc i ≡ i + 1 = omega arith in drop_suc xs i x at ∙ ap (λ n. x ∷ drop n xs) e

pub entries_more : (total : List Place) (texts : List EntryTexts) (n : ℕ) (entry : EntryTexts) (places : List Place) → slice_get texts n ≡ Some entry → read_entries n places (drop n texts) ≡ total
    → read_entries (n + 1) (read_entry entry n places) (drop (n + 1) texts) ≡ total
entries_more total texts n entry places at h =
    let e : n + 1 ≡ suc n = omega arith in
    ap (λ m. read_entries m (read_entry entry n places) (drop (n + 1) texts)) e
    ∙ ap (read_entries n places) (sym (drop_next texts n entry at))
    ∙ h

pub entries_all : (total : List Place) (texts : List EntryTexts) (n : ℕ) (places : List Place) → length texts ≤ n → read_entries n places (drop n texts) ≡ total → places ≡ total
entries_all total texts n places le h = ap (read_entries n places) (sym (drop_all n texts le)) ∙ h

pub any_more : (total : List Place) (cited : List Text) (texts : List EntryTexts) (n : ℕ) (entry : EntryTexts) (places : List Place) → slice_get texts n ≡ Some entry → read_all cited n places (drop n texts) ≡ total
    → read_all cited (n + 1) (read_any cited entry n places) (drop (n + 1) texts) ≡ total
any_more total cited texts n entry places at h =
    let e : n + 1 ≡ suc n = omega arith in
    ap (λ m. read_all cited m (read_any cited entry n places) (drop (n + 1) texts)) e
    ∙ ap (read_all cited n places) (sym (drop_next texts n entry at))
    ∙ h

pub any_all : (total : List Place) (cited : List Text) (texts : List EntryTexts) (n : ℕ) (places : List Place) → length texts ≤ n → read_all cited n places (drop n texts) ≡ total → places ≡ total
any_all total cited texts n places le h = ap (read_all cited n places) (sym (drop_all n texts le)) ∙ h

-- the cited keys of the list so far, and one more
pub cited_next : (keys : List Text) (i : ℕ) (key : Text) (cited : List Text) → slice_get keys i ≡ Some key → cited ≡ cited_keys (take i keys) → with_cited cited key ≡ cited_keys (take (i + 1) keys)
cited_next keys i key cited at h = ap (λ l. with_cited l key) h ∙ sym (ap cited_keys (take_next keys i key at) ∙ cited_more (take i keys) key)

-- the places of the cited keys so far, and one more
pub placed_next : (keys : List Text) (i : ℕ) (key : Text) (places : List Place) → slice_get keys i ≡ Some key → places ≡ map cited_place (take i keys) → places ++ cited_place key ∷ [] ≡ map cited_place (take (i + 1) keys)
placed_next keys i key places at h =
    ap (λ l. l ++ cited_place key ∷ []) h ∙ sym (ap (map cited_place) (take_next keys i key at) ∙ map_push cited_place (take i keys) key)

-- no cited place is counted
pub counts_cited : (keys : List Text) → CountsAtMost 0 (map cited_place keys)
counts_cited [] = tt
counts_cited (key ∷ keys) = (omega arith, counts_cited keys)

-- the keys of the entries so far
pub keys_next : (texts : List EntryTexts) (i : ℕ) (entry : EntryTexts) → slice_get texts i ≡ Some entry → take (i + 1) (keys_of texts) ≡ take i (keys_of texts) ++ entry.key ∷ []
keys_next texts i entry at = take_next (keys_of texts) i entry.key (at_key texts i at)
  where
    at_key : (texts : List EntryTexts) (i : ℕ) → slice_get texts i ≡ Some entry → slice_get (keys_of texts) i ≡ Some entry.key
    at_key [] i h = absurd (none-some entry h)
    at_key (first ∷ texts) zero h = ap (λ (e : EntryTexts). Some e.key) (same_Some first entry h)
    at_key (first ∷ texts) (suc i) h = at_key texts i h

pub keys_finds : (table : Numbers) (given : List EntryKey) (texts : List EntryTexts) (n : ℕ) (g : EntryKey) → slice_get given n ≡ Some g → AreKeysOf given texts
    → FindsKeys table (take n (keys_of texts) ++ g.key.now ∷ []) → FindsKeys table (take (n + 1) (keys_of texts))
keys_finds table given texts n g at are finds =
    let entry = given_at given texts are n g at in
    subst (FindsKeys table) (ap (λ (k : Text). take n (keys_of texts) ++ k ∷ []) (sym entry.2.key) ∙ sym (keys_next texts n entry.0 entry.1)) finds

pub keys_before : (given : List EntryKey) (texts : List EntryTexts) (n : ℕ) (g : EntryKey) → slice_get given n ≡ Some g → AreKeysOf given texts → n ≡ length (take n (keys_of texts))
keys_before given texts n g at are =
    let entry = given_at given texts are n g at in
    let lt = slice_get_within texts n entry.0 entry.1 in
    let long = length-map texts (λ (entry : EntryTexts). entry.key) in
    sym (length-take-le n (keys_of texts) (omega (arith, lt, long)))
