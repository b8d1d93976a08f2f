-- Keys in lists, compared with case folded.
use Rattle.std.proofs.Common.{◌≡◌, ◌∙◌, ℕ, zero, suc, ◌<◌, Bool, true, false, cond, not, ◌||◌, List, [], ◌∷◌, ◌++◌, Option, Some, None, is_some, option_map, option_and_then, unwrap_or, slice_get, length, set, filter, find, refl, sym, ap, arith}
use Rattle.std.specs.List.{list_any}
use Rattle.std.proofs.lemmas.Bool.{cond-true, cond-false, both_ways}
use Rattle.std.proofs.lemmas.Option.{none-some, same_Some}
use Rattle.bib_spec.specs.Text.{Text, folded, same}
use Rattle.bib_spec.specs.Records.{EntryTexts}
use Rattle.bib_spec.proofs.Names.{same-true, same_of}
use Rattle.bibtex_spec.specs.Places.{is_star, each_once, cited_keys, Place, added_place}
use Rattle.bibtex_spec.specs.Listed.{first_same}
use Rattle.bibtex_places.specs.KeyTables.{Numbers, number_of, FindsKeys, IsNumbered}
use Rattle.bibtex_places.specs.Steps.{with_cited, spelled_as}

-- ---- the first key that is the same

-- texts that are the same find the same
pub first_alike : (a b : Text) → same a b ≡ true → (ks : List Text) → first_same a ks ≡ first_same b ks
first_alike a b e [] = refl
first_alike a b e (k ∷ ks) =
    ap (λ c. cond c (Some 0) (option_map suc (first_same a ks))) (same_of a k b k (same-true a b e) refl)
    ∙ ap (λ o. cond (same b k) (Some 0) (option_map suc o)) (first_alike a b e ks)

-- what a longer list finds: what the list finds, or else the new key
abbrev found_then : Option ℕ → Option ℕ → Option ℕ
found_then (Some i) other = Some i
found_then None other = other

pub first_more : (name key : Text) (ks : List Text) → first_same name (ks ++ key ∷ []) ≡ found_then (first_same name ks) (cond (same name key) (Some (length ks)) None)
first_more name key [] = refl
first_more name key (k ∷ ks) =
    ap (λ o. cond (same name k) (Some 0) (option_map suc o)) (first_more name key ks)
    ∙ at (same name k) (first_same name ks) (same name key)
  where
    at : (b : Bool) (o : Option ℕ) (c : Bool) → cond b (Some 0) (option_map suc (found_then o (cond c (Some (length ks)) None))) ≡ found_then (cond b (Some 0) (option_map suc o)) (cond c (Some (suc (length ks))) None)
    at true o c = refl
    at false (Some i) c = refl
    at false None true = refl
    at false None false = refl

-- a table of keys of which one is the same as the new key finds the new key, too
pub table_old : (table : Numbers) (ks : List Text) (key : Text) → FindsKeys table ks → is_some (number_of table key) ≡ true → FindsKeys table (ks ++ key ∷ [])
table_old table ks key finds old name = finds name ∙ at (first_same name ks) refl ∙ sym (first_more name key ks)
  where
    at : (o : Option ℕ) → first_same name ks ≡ o → first_same name ks ≡ found_then (first_same name ks) (cond (same name key) (Some (length ks)) None)
    at (Some i) e = e ∙ ap (λ o. found_then o (cond (same name key) (Some (length ks)) None)) (sym e)
    at None e = e ∙ other (same name key) refl ∙ ap (λ o. found_then o (cond (same name key) (Some (length ks)) None)) (sym e)
      where
        other : (b : Bool) → same name key ≡ b → None ≡ cond b (Some (length ks)) None
        other false s = refl
        other true s = absurd (both_ways (is_some (number_of table key)) (ap is_some (finds key ∙ sym (first_alike name key s ks) ∙ e)) old)

-- a table in which a key has got another number, and then its own again, finds what it found
pub table_back : (old mid new : Numbers) (ks : List Text) (key : Text) (n first : ℕ) → FindsKeys old ks → number_of old key ≡ Some first → IsNumbered old key n mid → IsNumbered mid key first new
    → FindsKeys new (ks ++ key ∷ [])
table_back old mid new ks key n first finds was changed back = table_old new ks key same_found (ap is_some (same_found key ∙ sym (finds key) ∙ was))
  where
    same_found : FindsKeys new ks
    same_found name = back name ∙ at (same name key) refl
      where
        at : (b : Bool) → same name key ≡ b → cond b (Some first) (number_of mid name) ≡ first_same name ks
        at true e = sym was ∙ finds key ∙ sym (first_alike name key e ks)
        at false e = changed name ∙ cond-false (same name key) (Some n) (number_of old name) e ∙ finds name

-- and otherwise it finds the new key once that has a number
pub table_new : (old new : Numbers) (ks : List Text) (key : Text) (n : ℕ) → FindsKeys old ks → is_some (number_of old key) ≡ false → IsNumbered old key n new → n ≡ length ks
    → FindsKeys new (ks ++ key ∷ [])
table_new old new ks key n finds none with is name = with name ∙ at (same name key) refl ∙ sym (first_more name key ks)
  where
    unfound : (o : Option ℕ) → is_some o ≡ false → o ≡ None
    unfound None e = refl
    unfound (Some i) e = absurd (both_ways true e refl)

    at : (b : Bool) → same name key ≡ b → cond b (Some n) (number_of old name) ≡ found_then (first_same name ks) (cond (same name key) (Some (length ks)) None)
    at true e =
        ap Some is
        ∙ sym (cond-true (same name key) (Some (length ks)) None e)
        ∙ ap (λ o. found_then o (cond (same name key) (Some (length ks)) None)) (sym (first_alike name key e ks ∙ sym (finds key) ∙ unfound (number_of old key) none))
    at false e = finds name ∙ other (first_same name ks) ∙ ap (λ b. found_then (first_same name ks) (cond b (Some (length ks)) None)) (sym e)
      where
        other : (o : Option ℕ) → o ≡ found_then o None
        other None = refl
        other (Some i) = refl

-- a key of the list is found within it
pub first_within : (text : Text) (ks : List Text) (i : ℕ) → first_same text ks ≡ Some i → i < length ks
first_within text [] i e = absurd (none-some i e)
first_within text (k ∷ ks) i e = at (same text k) (first_same text ks) (λ j s. first_within text ks j s) e
  where
    at : (b : Bool) (o : Option ℕ) → ((j : ℕ) → o ≡ Some j → j < length ks) → cond b (Some 0) (option_map suc o) ≡ Some i → i < suc (length ks)
    at true o within h = let z = same_Some 0 i h in omega (arith, z)
    at false None within h = absurd (none-some i h)
    at false (Some j) within h = let z = same_Some (suc j) i h in let lt = within j refl in omega (arith, z, lt)

pub any_first : (text : Text) (ks : List Text) → list_any (same text) ks ≡ is_some (first_same text ks)
any_first text [] = refl
any_first text (k ∷ ks) = ap (λ c. same text k || c) (any_first text ks) ∙ at (same text k) (first_same text ks)
  where
    at : (b : Bool) (o : Option ℕ) → (b || is_some o) ≡ is_some (cond b (Some 0) (option_map suc o))
    at true o = refl
    at false None = refl
    at false (Some i) = refl

pub find_first : (text : Text) (ks : List Text) → find (same text) ks ≡ option_and_then (slice_get ks) (first_same text ks)
find_first text [] = refl
find_first text (k ∷ ks) = ap (λ o. cond (same text k) (Some k) o) (find_first text ks) ∙ at (same text k) (first_same text ks)
  where
    at : (b : Bool) (o : Option ℕ) → cond b (Some k) (option_and_then (slice_get ks) o) ≡ option_and_then (slice_get (k ∷ ks)) (cond b (Some 0) (option_map suc o))
    at true o = refl
    at false None = refl
    at false (Some i) = refl

-- another spelling of the same key changes nothing
pub first_set : (text key other : Text) (ks : List Text) (i : ℕ) → slice_get ks i ≡ Some key → folded other ≡ folded key → first_same text (set ks i other) ≡ first_same text ks
first_set text key other [] i at e = refl
first_set text key other (k ∷ ks) zero at e =
    ap (λ c. cond c (Some 0) (option_map suc (first_same text ks))) (same_of text other text k refl (e ∙ sym (ap folded (same_Some k key at))))
first_set text key other (k ∷ ks) (suc i) at e = ap (λ o. cond (same text k) (Some 0) (option_map suc o)) (first_set text key other ks i at e)

-- ---- cited keys

-- a filter of keys by another key keeps whether there is a third, if that is another
any_others : (key first : Text) → same key first ≡ false → (ks : List Text) → list_any (same key) (filter (λ other. not (same other first)) ks) ≡ list_any (same key) ks
any_others key first apart [] = refl
any_others key first apart (k ∷ ks) = at (same k first) (same key k) refl refl (any_others key first apart ks)
  where
    rest : List Text
    rest = filter (λ other. not (same other first)) ks

    at : (b c : Bool) → same k first ≡ b → same key k ≡ c → list_any (same key) rest ≡ list_any (same key) ks
        → list_any (same key) (cond (not b) (k ∷ rest) rest) ≡ (same key k || list_any (same key) ks)
    at false c e s later = ap (λ d. same key k || d) later
    at true false e s later = later ∙ ap (λ d. d || list_any (same key) ks) (sym s)
    at true true e s later = absurd (both_ways (same key first) apart (same_of key first k first (same-true key k s) refl ∙ e))

abbrev once_with : List Text → Text → List Text
once_with ks key = cond (list_any (same key) ks) ks (ks ++ key ∷ [])

filter_push : (p : Text → Bool) (ks : List Text) (key : Text) → filter p (ks ++ key ∷ []) ≡ cond (p key) (filter p ks ++ key ∷ []) (filter p ks)
filter_push p [] key = at (p key)
  where
    at : (b : Bool) → cond b (key ∷ []) [] ≡ cond b (key ∷ []) []
    at b = refl
filter_push p (k ∷ ks) key = ap (λ l. cond (p k) (k ∷ l) l) (filter_push p ks key) ∙ at (p k) (p key)
  where
    at : (b c : Bool) → cond b (k ∷ cond c (filter p ks ++ key ∷ []) (filter p ks)) (cond c (filter p ks ++ key ∷ []) (filter p ks)) ≡ cond c (cond b (k ∷ filter p ks) (filter p ks) ++ key ∷ []) (cond b (k ∷ filter p ks) (filter p ks))
    at true true = refl
    at true false = refl
    at false true = refl
    at false false = refl

once_more : (ks : List Text) (key : Text) → each_once (ks ++ key ∷ []) ≡ once_with (each_once ks) key
once_more [] key = refl
once_more (k ∷ ks) key = ap (λ l. k ∷ filter others l) (once_more ks key) ∙ at (same key k) refl
  where
    others : Text → Bool
    others other = not (same other k)

    rest : List Text
    rest = each_once ks

    within : (b : Bool) → filter others (cond b rest (rest ++ key ∷ [])) ≡ cond b (filter others rest) (cond (others key) (filter others rest ++ key ∷ []) (filter others rest))
    within true = refl
    within false = filter_push others rest key

    at : (b : Bool) → same key k ≡ b → k ∷ filter others (once_with rest key) ≡ cond (same key k || list_any (same key) (filter others rest)) (k ∷ filter others rest) ((k ∷ filter others rest) ++ key ∷ [])
    at true e =
        ap (λ l. k ∷ l) (within (list_any (same key) rest) ∙ ap (λ (c : Bool). cond (list_any (same key) rest) (filter others rest) (cond (not c) (filter others rest ++ key ∷ []) (filter others rest))) e ∙ either (list_any (same key) rest))
        ∙ ap (λ (c : Bool). cond (c || list_any (same key) (filter others rest)) (k ∷ filter others rest) ((k ∷ filter others rest) ++ key ∷ [])) (sym e)
      where
        either : (b : Bool) → cond b (filter others rest) (filter others rest) ≡ filter others rest
        either true = refl
        either false = refl
    at false e =
        ap (λ l. k ∷ l) (within (list_any (same key) rest) ∙ ap (λ (c : Bool). cond (list_any (same key) rest) (filter others rest) (cond (not c) (filter others rest ++ key ∷ []) (filter others rest))) e)
        ∙ moved (list_any (same key) rest)
        ∙ ap (λ (c : Bool). cond c (k ∷ filter others rest) ((k ∷ filter others rest) ++ key ∷ [])) (sym (any_others key k e rest))
        ∙ ap (λ (c : Bool). cond (c || list_any (same key) (filter others rest)) (k ∷ filter others rest) ((k ∷ filter others rest) ++ key ∷ [])) (sym e)
      where
        moved : (b : Bool) → k ∷ cond b (filter others rest) (filter others rest ++ key ∷ []) ≡ cond b (k ∷ filter others rest) ((k ∷ filter others rest) ++ key ∷ [])
        moved true = refl
        moved false = refl

-- the cited keys of a list that is one longer
pub cited_more : (ks : List Text) (key : Text) → cited_keys (ks ++ key ∷ []) ≡ with_cited (cited_keys ks) key
cited_more ks key = ap each_once (filter_push unstarred ks key) ∙ at (is_star key)
  where
    unstarred : Text → Bool
    unstarred other = not (is_star other)

    kept : List Text
    kept = filter unstarred ks

    at : (b : Bool) → each_once (cond (not b) (kept ++ key ∷ []) kept) ≡ cond (b || list_any (same key) (each_once kept)) (each_once kept) (each_once kept ++ key ∷ [])
    at true = refl
    at false = once_more kept key

-- ---- spellings

pub spelled_some : (cited : List Text) (key other text : Text) (n : ℕ) → first_same key cited ≡ Some n → slice_get cited n ≡ Some text → text ≡ spelled_as cited key other
spelled_some cited key other text n e at =
    sym (ap (λ o. unwrap_or o other) (find_first key cited ∙ ap (option_and_then (slice_get cited)) e ∙ at))

pub spelled_none : (cited : List Text) (key other : Text) → first_same key cited ≡ None → other ≡ spelled_as cited key other
spelled_none cited key other e = sym (ap (λ o. unwrap_or o other) (find_first key cited ∙ ap (option_and_then (slice_get cited)) e))

-- ---- one more cited key

pub kept_star : (cited : List Text) (key : Text) → is_star key ≡ true → cited ≡ with_cited cited key
kept_star cited key e = sym (ap (λ (b : Bool). cond (b || list_any (same key) cited) cited (cited ++ key ∷ [])) e)

pub kept_found : (cited : List Text) (key : Text) → is_some (first_same key cited) ≡ true → cited ≡ with_cited cited key
kept_found cited key e = sym (ap (λ (b : Bool). cond (is_star key || b) cited (cited ++ key ∷ [])) (any_first key cited ∙ e) ∙ at (is_star key))
  where
    at : (b : Bool) → cond (b || true) cited (cited ++ key ∷ []) ≡ cited
    at true = refl
    at false = refl

pub pushed_new : (cited : List Text) (key : Text) → is_star key ≡ false → is_some (first_same key cited) ≡ false → cited ++ key ∷ [] ≡ with_cited cited key
pushed_new cited key e f = sym (ap (λ (b : Bool). cond (b || list_any (same key) cited) cited (cited ++ key ∷ [])) e ∙ ap (λ (b : Bool). cond b cited (cited ++ key ∷ [])) (any_first key cited ∙ f))

-- ---- places of keys that are added

abbrev place_of : Text → ℕ → Bool → Place
place_of spelled n is_cited = record { spelled = spelled; entry = Some n; count = 0; is_cited = is_cited }

pub added_is : (cited : List Text) (entry : EntryTexts) (n : ℕ) (key text : Text) (b : Bool) → entry.key ≡ key → text ≡ spelled_as cited key key → b ≡ is_some (first_same key cited) → place_of text n b ≡ added_place cited entry n
added_is cited entry n key text b e t c =
    ap (λ x. place_of x n b) t
    ∙ ap (λ y. place_of (spelled_as cited key key) n y) (c ∙ sym (any_first key cited))
    ∙ ap (λ k. place_of (spelled_as cited k k) n (list_any (same k) cited)) (sym e)
