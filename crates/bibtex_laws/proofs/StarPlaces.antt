-- The places where `*` alone is cited: one for each entry whose key no earlier entry has.
use Rattle.std.proofs.Common.{◌≡◌, ◌∙◌, ℕ, zero, suc, ◌+◌, ◌<◌, ◌≤◌, nat_lt, Bool, true, false, cond, ◌||◌, List, [], ◌∷◌, ◌++◌, Option, Some, is_none, option_map, slice_get, length, map, codes, find, ⊎_elim, refl, sym, ap, ap₂, arith, append_assoc, append-nil, le_of_suc-le-suc, not-suc-le-zero, zero-add, ltb-true, lt-ltb}
use Rattle.bib_spec.proofs.Names.{both_true}
use Rattle.std.specs.Bool.{⊤}
use Rattle.std.specs.List.{list_any}
use Rattle.std.specs.Option.{option_map_or}
use Rattle.std.proofs.lemmas.Bool.{cases_Bool, cond-true, cond-false, or_parts, false_from_ne_true}
use Rattle.bib_spec.specs.Text.{Text, same}
use Rattle.bib_spec.specs.Records.{EntryTexts, keys_of}
use Rattle.bibtex_spec.specs.Places.{Place, has_key, is_awaited, taken, added_place, read_all, places_of}
use Rattle.bibtex_laws.proofs.SameNames.{same_alike}

abbrev pub star_alone : List Text
star_alone = codes "*" ∷ []

-- the places of these entries, the first of which has the number n, where these keys were seen before
abbrev pub new_places : ℕ → List Text → List EntryTexts → List Place
new_places n seen [] = []
new_places n seen (entry ∷ entries) =
    cond (list_any (same entry.key) seen) (new_places (suc n) (entry.key ∷ seen) entries) (added_place [] entry n ∷ new_places (suc n) (entry.key ∷ seen) entries)

-- the entries that get a place
abbrev pub new_entries : List Text → List EntryTexts → List EntryTexts
new_entries seen [] = []
new_entries seen (entry ∷ entries) = cond (list_any (same entry.key) seen) (new_entries (entry.key ∷ seen) entries) (entry ∷ new_entries (entry.key ∷ seen) entries)

-- the keys that were seen after these entries
abbrev pub seen_after : List Text → List EntryTexts → List Text
seen_after seen [] = seen
seen_after seen (entry ∷ entries) = seen_after (entry.key ∷ seen) entries

-- ---- reading

abbrev AreHeld : List Place → Type 0
AreHeld [] = ⊤
AreHeld (p ∷ ps) = (is_none p.entry ≡ false) × AreHeld ps

not_awaited : (key : Text) (ps : List Place) → AreHeld ps → is_awaited key ps ≡ false
not_awaited key [] held = refl
not_awaited key (p ∷ ps) held = ⊎_elim
    (λ is. ap (λ (o : Option Place). option_map_or (λ place. is_none place.entry) o false) (cond-true (has_key key p) (Some p) (find (has_key key) ps) is) ∙ held.0)
    (λ no. ap (λ (o : Option Place). option_map_or (λ place. is_none place.entry) o false) (cond-false (has_key key p) (Some p) (find (has_key key) ps) no) ∙ not_awaited key ps held.1)
    (cases_Bool (has_key key p))

held_and : (ps : List Place) (entry : EntryTexts) (n : ℕ) → AreHeld ps → AreHeld (ps ++ added_place [] entry n ∷ [])
held_and [] entry n held = (refl, tt)
held_and (p ∷ ps) entry n held = (held.0, held_and ps entry n held.1)

-- the keys of the places are those that were seen
abbrev AreSeen : List Place → List Text → Type 0
AreSeen ps seen = (key : Text) → list_any (has_key key) ps ≡ list_any (same key) seen

any_with : (key : Text) (ps : List Place) (p : Place) → list_any (has_key key) (ps ++ p ∷ []) ≡ (has_key key p || list_any (has_key key) ps)
any_with key [] p = refl
any_with key (q ∷ ps) p = ap (λ (b : Bool). has_key key q || b) (any_with key ps p) ∙ swap (has_key key q) (has_key key p) (list_any (has_key key) ps)
  where
    swap : (a b c : Bool) → (a || (b || c)) ≡ (b || (a || c))
    swap true true c = refl
    swap true false c = refl
    swap false b c = refl

pub any_alike : (a b : Text) (keys : List Text) → same a b ≡ true → list_any (same a) keys ≡ list_any (same b) keys
any_alike a b [] is = refl
any_alike a b (key ∷ keys) is = ap₂ (λ (c d : Bool). c || d) (same_alike a b key is) (any_alike a b keys is)

-- a key that was seen may be seen again
seen_again : (key other : Text) (seen : List Text) → list_any (same key) seen ≡ true → list_any (same other) seen ≡ (same other key || list_any (same other) seen)
seen_again key other seen is = ⊎_elim
    (λ yes_. any_alike other key seen yes_ ∙ is ∙ sym (ap (λ (b : Bool). b || list_any (same other) seen) yes_))
    (λ no_. sym (ap (λ (b : Bool). b || list_any (same other) seen) no_))
    (cases_Bool (same other key))

pub all_read : (n : ℕ) (ps : List Place) (seen : List Text) (entries : List EntryTexts) → AreHeld ps → AreSeen ps seen → read_all [] n ps entries ≡ ps ++ new_places n seen entries
all_read n ps seen [] held are = sym (append-nil ps)
all_read n ps seen (entry ∷ entries) held are = ⊎_elim
    (λ old.
    ap (λ (l : List Place). read_all [] (suc n) l entries)
    (cond-true (list_any (has_key entry.key) ps) (cond (is_awaited entry.key ps) (taken entry n ps) ps) more (are entry.key ∙ old)
    ∙ cond-false (is_awaited entry.key ps) (taken entry n ps) ps (not_awaited entry.key ps held))
    ∙ all_read (suc n) ps (entry.key ∷ seen) entries held (λ key. are key ∙ seen_again entry.key key seen old)
    ∙ ap (λ (l : List Place). ps ++ l) (sym (cond-true (list_any (same entry.key) seen) rest (added_place [] entry n ∷ rest) old)))
    (λ new.
    ap (λ (l : List Place). read_all [] (suc n) l entries)
    (cond-false (list_any (has_key entry.key) ps) (cond (is_awaited entry.key ps) (taken entry n ps) ps) more (are entry.key ∙ new))
    ∙ all_read (suc n) more (entry.key ∷ seen) entries (held_and ps entry n held) (λ key. any_with key ps (added_place [] entry n) ∙ ap (λ (b : Bool). same key entry.key || b) (are key))
    ∙ append_assoc ps (added_place [] entry n ∷ []) rest
    ∙ ap (λ (l : List Place). ps ++ l) (sym (cond-false (list_any (same entry.key) seen) rest (added_place [] entry n ∷ rest) new)))
    (cases_Bool (list_any (same entry.key) seen))
  where
    more : List Place
    more = ps ++ added_place [] entry n ∷ []

    rest : List Place
    rest = new_places (suc n) (entry.key ∷ seen) entries

pub star_places : (entries : List EntryTexts) → places_of entries (codes "*" ∷ []) ≡ new_places 0 [] entries
star_places entries = all_read 0 [] [] entries tt (λ key. refl)

-- ---- numbers of places and of entries with others put in

-- m more than n, by recursion on m
abbrev pub more_by : ℕ → ℕ → ℕ
more_by zero n = n
more_by (suc m) n = suc (more_by m n)

more_is : (m n : ℕ) → more_by m n ≡ m + n
more_is zero n = sym (zero-add n)
more_is (suc m) n = ap suc (more_is m n) ∙ (let is : suc (m + n) ≡ suc m + n = omega arith in is)

-- the number that n gets when m are put in at number b
abbrev pub past : ℕ → ℕ → ℕ → ℕ
past zero m n = more_by m n
past (suc b) m zero = zero
past (suc b) m (suc n) = suc (past b m n)

pub past_before : (b m n : ℕ) → n < b → past b m n ≡ n
past_before zero m n early = absurd (not-suc-le-zero early)
past_before (suc b) m zero early = refl
past_before (suc b) m (suc n) early = ap suc (past_before b m n (le_of_suc-le-suc early))

pub past_after : (b m n : ℕ) → past b m (b + n) ≡ m + (b + n)
past_after zero m n = more_is m (zero + n)
past_after (suc b) m n =
    (let is : suc b + n ≡ suc (b + n) = omega arith in ap (past (suc b) m) is)
    ∙ ap suc (past_after b m n) ∙ (let is : suc (m + (b + n)) ≡ m + (suc b + n) = omega arith in is)

pub past_grows : (b m n : ℕ) → n ≤ past b m n
past_grows zero m n = let is = more_is m n in omega (arith, is)
past_grows (suc b) m zero = omega arith
past_grows (suc b) m (suc n) = let le = past_grows b m n in omega (arith, le)

lt_suc : (j k : ℕ) → nat_lt (suc j) (suc k) ≡ nat_lt j k
lt_suc j k = both_true (nat_lt (suc j) (suc k)) (nat_lt j k)
    (λ is. let less : suc j < suc k = ltb-true (suc j) (suc k) is in lt-ltb j k (omega (arith, less)))
    (λ is. let less : j < k = ltb-true j k is in lt-ltb (suc j) (suc k) (omega (arith, less)))

not_below_zero : (j : ℕ) → nat_lt (suc j) zero ≡ false
not_below_zero j = false_from_ne_true (nat_lt (suc j) zero) (λ is. not-suc-le-zero (ltb-true (suc j) zero is))

pub past_order : (b m j k : ℕ) → nat_lt (past b m j) (past b m k) ≡ nat_lt j k
past_order zero zero j k = refl
past_order zero (suc m) j k = lt_suc (more_by m j) (more_by m k) ∙ past_order zero m j k
past_order (suc b) m zero zero = refl
past_order (suc b) m zero (suc k) = lt-ltb zero (suc (past b m k)) (omega arith) ∙ sym (lt-ltb zero (suc k) (omega arith))
past_order (suc b) m (suc j) zero = not_below_zero (past b m j) ∙ sym (not_below_zero j)
past_order (suc b) m (suc j) (suc k) = lt_suc (past b m j) (past b m k) ∙ past_order b m j k ∙ sym (lt_suc j k)

pub skipped : {X : Type 0} (xs ys : List X) (n : ℕ) → slice_get (xs ++ ys) (length xs + n) ≡ slice_get ys n
skipped [] ys n = ap (slice_get ys) (zero-add n)
skipped (x ∷ xs) ys n = (let is : suc (length xs) + n ≡ suc (length xs + n) = omega arith in ap (slice_get (x ∷ (xs ++ ys))) is) ∙ skipped xs ys n

skipped_more : {X : Type 0} (xs ys : List X) (n : ℕ) → slice_get (xs ++ ys) (more_by (length xs) n) ≡ slice_get ys n
skipped_more [] ys n = refl
skipped_more (x ∷ xs) ys n = skipped_more xs ys n

pub get_past : {X : Type 0} (xs ys zs : List X) (n : ℕ) → slice_get (xs ++ (ys ++ zs)) (past (length xs) (length ys) n) ≡ slice_get (xs ++ zs) n
get_past [] ys zs n = skipped_more ys zs n
get_past (x ∷ xs) ys zs zero = refl
get_past (x ∷ xs) ys zs (suc n) = get_past xs ys zs n

-- the place, with its entry renumbered
abbrev pub renumbered : (ℕ → ℕ) → Place → Place
renumbered number place = record { spelled = place.spelled; entry = option_map number place.entry; count = place.count; is_cited = place.is_cited }

-- ---- the places of joined entries

pub places_joined : (n : ℕ) (seen : List Text) (xs ys : List EntryTexts) → new_places n seen (xs ++ ys) ≡ new_places n seen xs ++ new_places (n + length xs) (seen_after seen xs) ys
places_joined n seen [] ys = (let is : n ≡ n + 0 = omega arith in ap (λ (k : ℕ). new_places k seen ys) is)
places_joined n seen (x ∷ xs) ys =
    let later : new_places (suc n) (x.key ∷ seen) (xs ++ ys) ≡ new_places (suc n) (x.key ∷ seen) xs ++ new_places (n + suc (length xs)) (seen_after (x.key ∷ seen) xs) ys =
    places_joined (suc n) (x.key ∷ seen) xs ys ∙ (let is : suc n + length xs ≡ n + suc (length xs) = omega arith in ap (λ (k : ℕ). new_places (suc n) (x.key ∷ seen) xs ++ new_places k (seen_after (x.key ∷ seen) xs) ys) is) in
    ap (λ (l : List Place). cond (list_any (same x.key) seen) l (added_place [] x n ∷ l)) later
    ∙ split (list_any (same x.key) seen) (new_places (suc n) (x.key ∷ seen) xs) (new_places (n + suc (length xs)) (seen_after (x.key ∷ seen) xs) ys)
  where
    split : (b : Bool) (l m : List Place) → cond b (l ++ m) (added_place [] x n ∷ (l ++ m)) ≡ cond b l (added_place [] x n ∷ l) ++ m
    split true l m = refl
    split false l m = refl

pub seen_is : (key : Text) (seen : List Text) (entries : List EntryTexts) → list_any (same key) (keys_of entries) ≡ false → list_any (same key) (seen_after seen entries) ≡ list_any (same key) seen
seen_is key seen [] none_ = refl
seen_is key seen (entry ∷ entries) none_ =
    let both = or_parts (same key entry.key) (list_any (same key) (keys_of entries)) none_ in
    seen_is key (entry.key ∷ seen) entries both.1 ∙ ap (λ (b : Bool). b || list_any (same key) seen) both.0

-- the entries of all of which the test holds
abbrev AllEntries : (EntryTexts → Type 0) → List EntryTexts → Type 0
AllEntries P entries = (n : ℕ) (entry : EntryTexts) → slice_get entries n ≡ Some entry → P entry

module _ (b m : ℕ) where
  map_cond : (c : Bool) (p : Place) (l : List Place) → cond c (map (renumbered (past b m)) l) (renumbered (past b m) p ∷ map (renumbered (past b m)) l) ≡ map (renumbered (past b m)) (cond c l (p ∷ l))
  map_cond true p l = refl
  map_cond false p l = refl

  place_moved : (entry : EntryTexts) (n k : ℕ) → past b m n ≡ k → added_place [] entry k ≡ renumbered (past b m) (added_place [] entry n)
  place_moved entry n k is = ap (λ (j : ℕ). added_place [] entry j) (sym is)

  -- the places of later entries, with others put in before them
  pub places_moved : (n : ℕ) (seen others : List Text) (entries : List EntryTexts) → AllEntries (λ entry. list_any (same entry.key) others ≡ list_any (same entry.key) seen) entries
      → new_places (m + (b + n)) others entries ≡ map (renumbered (past b m)) (new_places (b + n) seen entries)
  places_moved n seen others [] alike = refl
  places_moved n seen others (entry ∷ entries) alike =
      let rest : List Place = new_places (suc (b + n)) (entry.key ∷ seen) entries in
      let later : new_places (suc (m + (b + n))) (entry.key ∷ others) entries ≡ map (renumbered (past b m)) rest =
      (let is : suc (m + (b + n)) ≡ m + (b + suc n) = omega arith in ap (λ (k : ℕ). new_places k (entry.key ∷ others) entries) is)
      ∙ places_moved (suc n) (entry.key ∷ seen) (entry.key ∷ others) entries (λ j other at. ap (λ (c : Bool). same other.key entry.key || c) (alike (suc j) other at))
      ∙ (let is : b + suc n ≡ suc (b + n) = omega arith in ap (λ (k : ℕ). map (renumbered (past b m)) (new_places k (entry.key ∷ seen) entries)) is) in
      ap₂ (λ (c : Bool) (l : List Place). cond c l (added_place [] entry (m + (b + n)) ∷ l)) (alike zero entry refl) later
      ∙ ap (λ (p : Place). cond (list_any (same entry.key) seen) (map (renumbered (past b m)) rest) (p ∷ map (renumbered (past b m)) rest)) (place_moved entry (b + n) (m + (b + n)) (past_after b m n))
      ∙ map_cond (list_any (same entry.key) seen) (added_place [] entry (b + n)) rest

  -- the places of earlier entries are the same
  pub places_still : (n : ℕ) (seen : List Text) (entries : List EntryTexts) → n + length entries ≤ b → map (renumbered (past b m)) (new_places n seen entries) ≡ new_places n seen entries
  places_still n seen [] early = refl
  places_still n seen (entry ∷ entries) early =
      let here : n < b = omega (arith, early) in
      let rest_early : suc n + length entries ≤ b = omega (arith, early) in
      sym (map_cond (list_any (same entry.key) seen) (added_place [] entry n) (new_places (suc n) (entry.key ∷ seen) entries))
      ∙ ap₂ (λ (p : Place) (l : List Place). cond (list_any (same entry.key) seen) l (p ∷ l)) (sym (place_moved entry n n (past_before b m n here))) (places_still (suc n) (entry.key ∷ seen) entries rest_early)
