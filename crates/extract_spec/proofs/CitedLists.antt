-- The cited list of the keys of an extract.
use Rattle.std.proofs.Common.{◌≡◌, ℕ, zero, suc, ◌+◌, ◌≤◌, ◌==◌, ◌||◌, ◌&&◌, ◌++◌, Bool, true, false, not, nat_le, cond, List, [], ◌∷◌, Option, Some, None, is_none, option_map, filter, filter_map, map, length, count_by, ⊎_elim, refl, sym, ◌∙◌, ap, ap₂, subst, arith, add-zero, add-one, zero-add, eq-eqb}
use Rattle.std.specs.List.{list_any, AllByRecursion, cons_option, range_with_len, enumerate_from}
use Rattle.std.specs.Option.{option_map_or}
use Rattle.std.proofs.lemmas.Bool.{cases_Bool, cond-true, cond-false, eqb-true, leb-true, and_parts, false≢true}
use Rattle.std.proofs.lemmas.List.{map-append}
use Rattle.std.proofs.lemmas.List.Sums.{sum_by-cons}
use Rattle.bib_spec.specs.Text.{Text}
use Rattle.bib_spec.specs.Reading.{Reading}
use Rattle.bib_spec.specs.Records.{EntryTexts, entries_of, entry_named, parent, is_parent_of, numbers_of, once, cites_all, cited_by_key, with_parents, listed, unknown, ancestors}
use Rattle.bib_spec.proofs.Keys.{option_cases}
use Rattle.bib_spec.proofs.Counts.{count-no}
use Rattle.extract_spec.specs.Extract.{found, is_kept_entry, picked, number_in, keeps_for}
use Rattle.extract_spec.specs.Laws.{IsClosed, cited_lists_stay}
use Rattle.extract_spec.proofs.PickedEntries.{eq-number}
use Rattle.extract_spec.proofs.ExtractSays.{entries-picked}
use Rattle.extract_spec.proofs.ExtractMeans.{from_zero, named_some, named_none, parent_alike, parent_kept}
use Rattle.extract_spec.proofs.Chains.{any_implies, kept-closed}

-- ---- lists whose numbers are all kept

module _ (keeps : ℕ → Bool) where
  abbrev AllKept : List ℕ → Type 0
  AllKept ns = AllByRecursion (λ m. keeps m ≡ true) ns

  zero_kept : (n : ℕ) → keeps n ≡ true → keeps (0 + n) ≡ true
  zero_kept n h = subst (λ a. keeps a ≡ true) (sym (zero-add n)) h

  pub same_number : (a b : ℕ) → keeps a ≡ true → keeps b ≡ true → (number_in keeps 0 a == number_in keeps 0 b) ≡ (a == b)
  same_number a b h k = eq-number keeps 0 a b (zero_kept a h) (zero_kept b k)

  pub has_alike : (p : ℕ) (ns : List ℕ) → keeps p ≡ true → AllByRecursion (λ m. keeps m ≡ true) ns →
      list_any (λ v. v == number_in keeps 0 p) (map (number_in keeps 0) ns) ≡ list_any (λ v. v == p) ns
  has_alike p [] h all = refl
  has_alike p (n ∷ ns) h all = ap₂ ◌||◌ (same_number n p all.0 h) (has_alike p ns h all.1)

  -- a test of the new numbers and a test of the old ones leave the same
  filter_alike : (f g : ℕ → Bool) → ((m : ℕ) → keeps m ≡ true → f (number_in keeps 0 m) ≡ g m) → (ns : List ℕ) → AllByRecursion (λ m. keeps m ≡ true) ns →
      filter f (map (number_in keeps 0) ns) ≡ map (number_in keeps 0) (filter g ns)
  filter_alike f g alike [] all = refl
  filter_alike f g alike (n ∷ ns) all =
      let number = number_in keeps 0 in
      let rest = filter_alike f g alike ns all.1 in
      ap (λ b. cond b (number n ∷ filter f (map number ns)) (filter f (map number ns))) (alike n all.0) ∙ ⊎_elim
      (λ e. cond-true (g n) (number n ∷ filter f (map number ns)) (filter f (map number ns)) e ∙ ap (λ l. number n ∷ l) rest
      ∙ sym (ap (map number) (cond-true (g n) (n ∷ filter g ns) (filter g ns) e)))
      (λ e. cond-false (g n) (number n ∷ filter f (map number ns)) (filter f (map number ns)) e ∙ rest
      ∙ sym (ap (map number) (cond-false (g n) (n ∷ filter g ns) (filter g ns) e)))
      (cases_Bool (g n))

  filter_kept : (g : ℕ → Bool) (ns : List ℕ) → AllByRecursion (λ m. keeps m ≡ true) ns → AllByRecursion (λ m. keeps m ≡ true) (filter g ns)
  filter_kept g [] all = tt
  filter_kept g (n ∷ ns) all = ⊎_elim
      (λ e. subst (AllByRecursion (λ m. keeps m ≡ true)) (sym (cond-true (g n) (n ∷ filter g ns) (filter g ns) e)) (all.0, filter_kept g ns all.1))
      (λ e. subst (AllByRecursion (λ m. keeps m ≡ true)) (sym (cond-false (g n) (n ∷ filter g ns) (filter g ns) e)) (filter_kept g ns all.1))
      (cases_Bool (g n))

  once_kept : (ns : List ℕ) → AllByRecursion (λ m. keeps m ≡ true) ns → AllByRecursion (λ m. keeps m ≡ true) (once ns)
  once_kept [] all = tt
  once_kept (n ∷ ns) all = (all.0, filter_kept (λ m. not (m == n)) (once ns) (once_kept ns all.1))

  once_alike : (ns : List ℕ) → AllByRecursion (λ m. keeps m ≡ true) ns → once (map (number_in keeps 0) ns) ≡ map (number_in keeps 0) (once ns)
  once_alike [] all = refl
  once_alike (n ∷ ns) all =
      let number = number_in keeps 0 in
      ap (λ l. number n ∷ filter (λ m. not (m == number n)) l) (once_alike ns all.1)
      ∙ ap (λ l. number n ∷ l) (filter_alike (λ m. not (m == number n)) (λ m. not (m == n)) (λ m h. ap not (same_number m n h all.0)) (once ns) (once_kept ns all.1))

  -- ---- the numbers of all that are kept

  number_last : (r n : ℕ) → number_in keeps r (suc n) ≡ cond (keeps (r + n)) (suc (number_in keeps r n)) (number_in keeps r n)
  number_last r zero = ap (λ b. cond b 1 0) (ap keeps (sym (add-zero r)))
  number_last r (suc n) =
      let m = number_in keeps (suc r) n in
      let b = keeps (suc r + n) in
      let both = number_last (suc r) n in
      let shifted : keeps (suc r + n) ≡ keeps (r + suc n) = ap keeps (shift r n) in ⊎_elim
      (λ e.
      let here : number_in keeps r (suc n) ≡ suc m = cond-true (keeps r) (suc m) m e in
      cond-true (keeps r) (suc (number_in keeps (suc r) (suc n))) (number_in keeps (suc r) (suc n)) e
      ∙ ap suc both ∙ inside (keeps (suc r + n)) m
      ∙ ap (λ b. cond b (suc (suc m)) (suc m)) shifted
      ∙ ap (λ k. cond (keeps (r + suc n)) (suc k) k) (sym here))
      (λ e.
      let here : number_in keeps r (suc n) ≡ m = cond-false (keeps r) (suc m) m e in
      cond-false (keeps r) (suc (number_in keeps (suc r) (suc n))) (number_in keeps (suc r) (suc n)) e
      ∙ both
      ∙ ap (λ b. cond b (suc m) m) shifted
      ∙ ap (λ k. cond (keeps (r + suc n)) (suc k) k) (sym here))
      (cases_Bool (keeps r))
    where
      shift : (a b : ℕ) → suc a + b ≡ a + suc b
      shift a b = omega arith

      inside : (b : Bool) (m : ℕ) → suc (cond b (suc m) m) ≡ cond b (suc (suc m)) (suc m)
      inside true m = refl
      inside false m = refl

  pub numbers_kept : (entries : List EntryTexts) (s : ℕ) → range_with_len (number_in keeps 0 s) (length (picked keeps s entries)) ≡ map (number_in keeps 0) (filter keeps (range_with_len s (length entries)))
  numbers_kept [] s = refl
  numbers_kept (entry ∷ entries) s =
      let number = number_in keeps 0 in
      let rest = picked keeps (suc s) entries in
      let range = range_with_len (s + 1) (length entries) in
      let last : number (suc s) ≡ cond (keeps s) (suc (number s)) (number s) = number_last 0 s ∙ ap (λ a. cond (keeps a) (suc (number s)) (number s)) (zero-add s) in
      let later = numbers_kept entries (suc s) ∙ ap (λ a. map number (filter keeps (range_with_len a (length entries)))) (sym (add-one s)) in ⊎_elim
      (λ e. ap (λ l. range_with_len (number s) (length l)) (cond-true (keeps s) (entry ∷ rest) rest e)
      ∙ ap (λ a. number s ∷ range_with_len a (length rest)) (add-one (number s) ∙ sym (last ∙ cond-true (keeps s) (suc (number s)) (number s) e))
      ∙ ap (λ l. number s ∷ l) later
      ∙ sym (ap (map number) (cond-true (keeps s) (s ∷ filter keeps range) (filter keeps range) e)))
      (λ e. ap (λ l. range_with_len (number s) (length l)) (cond-false (keeps s) (entry ∷ rest) rest e)
      ∙ ap (λ a. range_with_len a (length rest)) (sym (last ∙ cond-false (keeps s) (suc (number s)) (number s) e))
      ∙ later
      ∙ sym (ap (map number) (cond-false (keeps s) (s ∷ filter keeps range) (filter keeps range) e)))
      (cases_Bool (keeps s))

  kept_are_kept : (ns : List ℕ) → AllByRecursion (λ m. keeps m ≡ true) (filter keeps ns)
  kept_are_kept [] = tt
  kept_are_kept (n ∷ ns) = ⊎_elim
      (λ e. subst (AllByRecursion (λ m. keeps m ≡ true)) (sym (cond-true (keeps n) (n ∷ filter keeps ns) (filter keeps ns) e)) (e, kept_are_kept ns))
      (λ e. subst (AllByRecursion (λ m. keeps m ≡ true)) (sym (cond-false (keeps n) (n ∷ filter keeps ns) (filter keeps ns) e)) (kept_are_kept ns))
      (cases_Bool (keeps n))

  -- a test that only kept numbers pass
  filter_twice : (g : ℕ → Bool) → ((m : ℕ) → g m ≡ true → keeps m ≡ true) → (ns : List ℕ) → filter g (filter keeps ns) ≡ filter g ns
  filter_twice g narrow [] = refl
  filter_twice g narrow (n ∷ ns) = ⊎_elim
      (λ e. ap (filter g) (cond-true (keeps n) (n ∷ filter keeps ns) (filter keeps ns) e) ∙ ap (λ l. cond (g n) (n ∷ l) l) (filter_twice g narrow ns))
      (λ e.
      let fails : g n ≡ false = ⊎_elim (λ t. absurd (false≢true (sym e ∙ narrow n t))) (λ f. f) (cases_Bool (g n)) in
      ap (filter g) (cond-false (keeps n) (n ∷ filter keeps ns) (filter keeps ns) e) ∙ filter_twice g narrow ns ∙ sym (cond-false (g n) (n ∷ filter g ns) (filter g ns) fails))
      (cases_Bool (keeps n))

-- ---- cited lists

module _ (keeps : ℕ → Bool) (entries : List EntryTexts) (closed : IsClosed keeps entries) where
  named_alike : (key : Text) → ((t : ℕ) → entry_named entries key ≡ Some t → keeps t ≡ true) → entry_named (picked keeps 0 entries) key ≡ option_map (number_in keeps 0) (entry_named entries key)
  named_alike key its = ⊎_elim
      (λ none. named_none keeps entries closed key none ∙ sym (ap (option_map (number_in keeps 0)) none))
      (λ some. named_some keeps entries closed key some.0 some.1 (its some.0 some.1) ∙ sym (ap (option_map (number_in keeps 0)) some.1))
      (option_cases (entry_named entries key))

  abbrev AreKeysKept : List Text → Type 0
  AreKeysKept keys = AllByRecursion (λ key. (t : ℕ) → entry_named entries key ≡ Some t → keeps t ≡ true) keys

  pub found_alike : (keys : List Text) → AreKeysKept keys → filter_map (entry_named (picked keeps 0 entries)) keys ≡ map (number_in keeps 0) (filter_map (entry_named entries) keys)
  found_alike [] all = refl
  found_alike (key ∷ keys) all =
      let number = number_in keeps 0 in
      ap₂ cons_option (named_alike key all.0) (found_alike keys all.1) ∙ mapped (entry_named entries key) (filter_map (entry_named entries) keys)
    where
      mapped : (o : Option ℕ) (ns : List ℕ) → cons_option (option_map (number_in keeps 0) o) (map (number_in keeps 0) ns) ≡ map (number_in keeps 0) (cons_option o ns)
      mapped None ns = refl
      mapped (Some n) ns = refl

  pub found_kept : (keys : List Text) → AreKeysKept keys → AllByRecursion (λ m. keeps m ≡ true) (filter_map (entry_named entries) keys)
  found_kept [] all = tt
  found_kept (key ∷ keys) all =
      let rest = filter_map (entry_named entries) keys in ⊎_elim
      (λ none. subst (λ o. AllByRecursion (λ m. keeps m ≡ true) (cons_option o rest)) (sym none) (found_kept keys all.1))
      (λ some. subst (λ o. AllByRecursion (λ m. keeps m ≡ true) (cons_option o rest)) (sym some.1) (all.0 some.0 some.1, found_kept keys all.1))
      (option_cases (entry_named entries key))

  parent_of_alike : (m n : ℕ) → keeps m ≡ true → keeps n ≡ true → is_parent_of (picked keeps 0 entries) (number_in keeps 0 m) (number_in keeps 0 n) ≡ is_parent_of entries m n
  parent_of_alike m n h k =
      let number = number_in keeps 0 in
      let F : Option ℕ → Bool = λ o. option_map_or (λ p. p == number m) o false in
      let G : Option ℕ → Bool = λ o. option_map_or (λ p. p == m) o false in
      ap F (parent_alike keeps entries closed n k) ∙ ⊎_elim
      (λ none. ap (λ o. F (option_map number o)) none ∙ sym (ap G none))
      (λ some. ap (λ o. F (option_map number o)) some.1
      ∙ eq-number keeps 0 some.0 m (from_zero keeps entries closed some.0 (parent_kept keeps entries closed n some.0 k some.1)) (from_zero keeps entries closed m h)
      ∙ sym (ap G some.1))
      (option_cases (parent entries n))

  count_alike : (m : ℕ) (ns : List ℕ) → keeps m ≡ true → AllByRecursion (λ m. keeps m ≡ true) ns →
      count_by (is_parent_of (picked keeps 0 entries) (number_in keeps 0 m)) (map (number_in keeps 0) ns) ≡ count_by (is_parent_of entries m) ns
  count_alike m [] h all = refl
  count_alike m (n ∷ ns) h all =
      let number = number_in keeps 0 in
      let f = is_parent_of (picked keeps 0 entries) (number m) in
      let g = is_parent_of entries m in
      sum_by-cons (λ x. cond (f x) 1 0) (number n) (map number ns)
      ∙ ap₂ (λ b c. cond b 1 0 + c) (parent_of_alike m n h all.0) (count_alike m ns h all.1)
      ∙ sym (sum_by-cons (λ x. cond (g x) 1 0) n ns)

  -- the parent of one of them is kept
  pub counted_kept : (m : ℕ) (ns : List ℕ) → AllByRecursion (λ m. keeps m ≡ true) ns → 1 ≤ count_by (is_parent_of entries m) ns → keeps m ≡ true
  counted_kept m [] all some = absurd (omega (arith, some))
  counted_kept m (n ∷ ns) all some = ⊎_elim
      (λ is. ⊎_elim
      (λ none. absurd (false≢true (sym (ap (λ o. option_map_or (λ p. p == m) o false) none) ∙ is)))
      (λ its. subst (λ p. keeps p ≡ true) (eqb-true its.0 m (sym (ap (λ o. option_map_or (λ p. p == m) o false) its.1) ∙ is)) (parent_kept keeps entries closed n its.0 all.0 its.1))
      (option_cases (parent entries n)))
      (λ other. counted_kept m ns all.1 (subst (λ c. 1 ≤ c) (count-no (is_parent_of entries m) n ns other) some))
      (cases_Bool (is_parent_of entries m n))

  pub with_parents_alike : (min : ℕ) (ns : List ℕ) → 1 ≤ min → AllByRecursion (λ m. keeps m ≡ true) ns →
      with_parents (picked keeps 0 entries) min (map (number_in keeps 0) ns) ≡ map (number_in keeps 0) (with_parents entries min ns)
  with_parents_alike min ns least all =
      let number = number_in keeps 0 in
      let few = picked keeps 0 entries in
      let f = λ (m : ℕ). not (list_any (λ n. n == m) (map number ns)) && nat_le min (count_by (is_parent_of few m) (map number ns)) in
      let g = λ (m : ℕ). not (list_any (λ n. n == m) ns) && nat_le min (count_by (is_parent_of entries m) ns) in
      let added : filter f (numbers_of few) ≡ map number (filter g (numbers_of entries)) =
      ap (filter f) (numbers_kept keeps entries 0)
      ∙ filter_alike keeps f g (λ m h. ap₂ (λ b c. not b && nat_le min c) (has_alike keeps m ns h all) (count_alike m ns h all)) (filter keeps (numbers_of entries)) (kept_are_kept keeps (numbers_of entries))
      ∙ ap (map number) (filter_twice keeps g (λ m e. counted_kept m ns all (enough m e)) (numbers_of entries)) in
      ap (λ l. map number ns ++ l) added ∙ sym (map-append number ns (filter g (numbers_of entries)))
    where
      enough : (m : ℕ) → (not (list_any (λ n. n == m) ns) && nat_le min (count_by (is_parent_of entries m) ns)) ≡ true → 1 ≤ count_by (is_parent_of entries m) ns
      enough m e =
          let le = leb-true min (count_by (is_parent_of entries m) ns) (and_parts (not (list_any (λ n. n == m) ns)) (nat_le min (count_by (is_parent_of entries m) ns)) e).1 in
          omega (arith, least, le)

  pub cited_alike : (keys : List Text) → AreKeysKept keys → cited_by_key (picked keeps 0 entries) keys ≡ map (number_in keeps 0) (cited_by_key entries keys)
  cited_alike keys all = ap once (found_alike keys all) ∙ once_alike keeps (filter_map (entry_named entries) keys) (found_kept keys all)

  pub cited_kept : (keys : List Text) → AreKeysKept keys → AllByRecursion (λ m. keeps m ≡ true) (cited_by_key entries keys)
  cited_kept keys all = once_kept keeps (filter_map (entry_named entries) keys) (found_kept keys all)

  unknown_from : (keys : List Text) (k : ℕ) → AreKeysKept keys →
      map (λ p. p.0) (filter (λ p. is_none (entry_named (picked keeps 0 entries) p.1)) (enumerate_from k keys)) ≡ map (λ p. p.0) (filter (λ p. is_none (entry_named entries p.1)) (enumerate_from k keys))
  unknown_from [] k all = refl
  unknown_from (key ∷ keys) k all =
      let number = number_in keeps 0 in
      let F : Bool → List ℕ → List ℕ = λ b l. cond b (k ∷ l) l in
      let f : ℕ × Text → Bool = λ p. is_none (entry_named (picked keeps 0 entries) p.1) in
      let g : ℕ × Text → Bool = λ p. is_none (entry_named entries p.1) in
      let alike : is_none (entry_named (picked keeps 0 entries) key) ≡ is_none (entry_named entries key) = ap is_none (named_alike key all.0) ∙ none_mapped (entry_named entries key) in
      inside (is_none (entry_named (picked keeps 0 entries) key)) (k, key) (filter f (enumerate_from (k + 1) keys))
      ∙ ap₂ F alike (unknown_from keys (k + 1) all.1)
      ∙ sym (inside (is_none (entry_named entries key)) (k, key) (filter g (enumerate_from (k + 1) keys)))
    where
      none_mapped : (o : Option ℕ) → is_none (option_map (number_in keeps 0) o) ≡ is_none o
      none_mapped None = refl
      none_mapped (Some n) = refl

      inside : (b : Bool) (p : ℕ × Text) (l : List (ℕ × Text)) → map (λ p. p.0) (cond b (p ∷ l) l) ≡ cond b (p.0 ∷ map (λ p. p.0) l) (map (λ p. p.0) l)
      inside true p l = refl
      inside false p l = refl

  pub unknown_alike : (keys : List Text) → AreKeysKept keys → cites_all keys ≡ false → unknown (picked keeps 0 entries) keys ≡ unknown entries keys
  unknown_alike keys all some =
      let few = picked keeps 0 entries in
      cond-false (cites_all keys) [] (map (λ p. p.0) (filter (λ p. is_none (entry_named few p.1)) (enumerate_from 0 keys))) some
      ∙ unknown_from keys 0 all
      ∙ sym (cond-false (cites_all keys) [] (map (λ p. p.0) (filter (λ p. is_none (entry_named entries p.1)) (enumerate_from 0 keys))) some)

  pub listed_alike : (keys : List Text) (min : ℕ) → AreKeysKept keys → cites_all keys ≡ false → 1 ≤ min →
      listed (picked keeps 0 entries) keys min ≡ map (number_in keeps 0) (listed entries keys min)
  listed_alike keys min all some least =
      let number = number_in keeps 0 in
      let few = picked keeps 0 entries in
      cond-false (cites_all keys) (numbers_of few) (with_parents few min (cited_by_key few keys)) some
      ∙ ap (with_parents few min) (cited_alike keys all)
      ∙ with_parents_alike min (cited_by_key entries keys) least (cited_kept keys all)
      ∙ ap (map number) (sym (cond-false (cites_all keys) (numbers_of entries) (with_parents entries min (cited_by_key entries keys)) some))

-- ---- what the keys find is kept

in_found : (h : Text → Option ℕ) (P : ℕ → Type 0) (keys : List Text) → ((t : ℕ) → list_any (λ v. v == t) (filter_map h keys) ≡ true → P t) →
    AllByRecursion (λ key. (t : ℕ) → h key ≡ Some t → P t) keys
in_found h P [] holds = tt
in_found h P (key ∷ keys) holds = (
  λ t e. holds t (ap (λ o. list_any (λ v. v == t) (cons_option o (filter_map h keys))) e ∙ ap (λ b. b || list_any (λ v. v == t) (filter_map h keys)) (eq-eqb t t refl)),
  in_found h P keys (λ t q. holds t (more (h key) t (filter_map h keys) q)),
)
  where
    or_true : (b : Bool) → (b || true) ≡ true
    or_true true = refl
    or_true false = refl

    more : (o : Option ℕ) (t : ℕ) (ns : List ℕ) → list_any (λ v. v == t) ns ≡ true → list_any (λ v. v == t) (cons_option o ns) ≡ true
    more None t ns q = q
    more (Some n) t ns q = ap (λ b. (n == t) || b) q ∙ or_true (n == t)

pub found_is_kept : (entries : List EntryTexts) (list : List ℕ) (t : ℕ) → list_any (λ v. v == t) list ≡ true → is_kept_entry entries list t ≡ true
found_is_kept entries list t e =
    any_implies (λ v. v == t) (λ c. c == t || list_any (λ a. a == t) (ancestors entries (length entries) c))
    (λ c is. ap (λ b. b || list_any (λ a. a == t) (ancestors entries (length entries) c)) is) list e

pub keys_kept : (db : Reading) (keys : List Text) → cites_all keys ≡ false → AllByRecursion (λ key. (t : ℕ) → entry_named (entries_of db) key ≡ Some t → keeps_for db keys t ≡ true) keys
keys_kept db keys some =
    let entries = entries_of db in
    in_found (entry_named entries) (λ t. keeps_for db keys t ≡ true) keys (λ t q.
    found_is_kept entries (found entries keys) t (ap (list_any (λ v. v == t)) (cond-false (cites_all keys) (numbers_of entries) (filter_map (entry_named entries) keys) some) ∙ q))

pub cited-stay : cited_lists_stay
cited-stay db keys min some least =
    let keeps = keeps_for db keys in
    let entries = entries_of db in
    let all = keys_kept db keys some in record {
      listed_is = ap (λ s. listed s keys min) (entries-picked db keys) ∙ listed_alike keeps entries (kept-closed db keys) keys min all some least;
      unknown_is = ap (λ s. unknown s keys) (entries-picked db keys) ∙ unknown_alike keeps entries (kept-closed db keys) keys all some;
    }
