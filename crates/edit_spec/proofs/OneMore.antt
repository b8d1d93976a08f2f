-- One more entry, which no other entry's crossref names.
use Rattle.edit_spec.proofs.Words.{◌≡◌, ◌||◌, ◌≢◌, ℕ, zero, suc, ◌<◌, ◌≤◌, ◌==◌, false, List, ◌∷◌, ◌++◌, Option, Some, None, option_map, insert, map, option_and_then, slice_get, length, ⊎_elim, refl, sym, ◌∙◌, ap, ap₂, arith, eq-eqb, zero-lt-suc, suc-le-suc, not-suc-le-zero, le_of_suc-le-suc}
use Rattle.edit_spec.proofs.Words.{list_any, option_map_or, cases_Bool, cond-true, cond-false, none-some, Text, folded, EntryTexts, Record, RecordField, crossref_text, keys_of, first_named, entry_named, is_named, target_of, target, other_than, parent, own_fields, missing, unvisited, ancestors}
use Rattle.edit_spec.proofs.Words.{ancestors_from, fields_at, with_inherited, record_of, expanded, number_with_one_more, both_true, option_cases}
use Rattle.std.proofs.Common.{[], eqb-true}
use Rattle.bib_spec.proofs.Places.{suc_some}

-- an element's place is less than the list's length
pub within : {X : Type 0} (xs : List X) (n : ℕ) (x : X) → slice_get xs n ≡ Some x → n < length xs
within [] n x e = absurd (none-some x e)
within (y ∷ ys) zero x e = zero-lt-suc (length ys)
within (y ∷ ys) (suc n) x e = suc-le-suc (within ys n x e)

pub length-keys : (entries : List EntryTexts) → length (keys_of entries) ≡ length entries
length-keys [] = refl
length-keys (entry ∷ entries) = ap suc (length-keys entries)

-- ---- an element more

pub slice_get-insert : {X : Type 0} (xs : List X) (i : ℕ) (x : X) → i ≤ length xs → (n : ℕ) → slice_get (insert xs i x) (number_with_one_more i n) ≡ slice_get xs n
slice_get-insert xs zero x h n = refl
slice_get-insert [] (suc i) x h n = absurd (not-suc-le-zero h)
slice_get-insert (y ∷ ys) (suc i) x h zero = refl
slice_get-insert (y ∷ ys) (suc i) x h (suc n) = slice_get-insert ys i x (le_of_suc-le-suc h) n

pub slice_get-insert_same : {X : Type 0} (xs : List X) (i : ℕ) (x : X) → i ≤ length xs → slice_get (insert xs i x) i ≡ Some x
slice_get-insert_same xs zero x h = refl
slice_get-insert_same [] (suc i) x h = absurd (not-suc-le-zero h)
slice_get-insert_same (y ∷ ys) (suc i) x h = slice_get-insert_same ys i x (le_of_suc-le-suc h)

pub length-insert : {X : Type 0} (xs : List X) (i : ℕ) (x : X) → length (insert xs i x) ≡ suc (length xs)
length-insert xs zero x = refl
length-insert [] (suc i) x = refl
length-insert (y ∷ ys) (suc i) x = ap suc (length-insert ys i x)

pub keys-insert : (entries : List EntryTexts) (i : ℕ) (entry : EntryTexts) → keys_of (insert entries i entry) ≡ insert (keys_of entries) i entry.key
keys-insert entries zero entry = refl
keys-insert [] (suc i) entry = refl
keys-insert (first ∷ entries) (suc i) entry = ap (λ l. first.key ∷ l) (keys-insert entries i entry)

-- ---- numbers

more_suc : (i : ℕ) (o : Option ℕ) → option_map suc (option_map (number_with_one_more i) o) ≡ option_map (number_with_one_more (suc i)) (option_map suc o)
more_suc i None = refl
more_suc i (Some m) = refl

more_same : (i m n : ℕ) → number_with_one_more i m ≡ number_with_one_more i n → m ≡ n
more_same zero m n e = omega (arith, e)
more_same (suc i) zero zero e = refl
more_same (suc i) zero (suc n) e = absurd (omega (arith, e))
more_same (suc i) (suc m) zero e = absurd (omega (arith, e))
more_same (suc i) (suc m) (suc n) e = ap suc (more_same i m n (omega (arith, e)))

pub more_other : (i n : ℕ) → number_with_one_more i n ≢ i
more_other zero n e = absurd (omega (arith, e))
more_other (suc i) zero e = absurd (omega (arith, e))
more_other (suc i) (suc n) e = more_other i n (omega (arith, e))

eq-more : (i m n : ℕ) → (number_with_one_more i m == number_with_one_more i n) ≡ (m == n)
eq-more i m n = both_true (number_with_one_more i m == number_with_one_more i n) (m == n)
    (λ e. eq-eqb m n (more_same i m n (eqb-true (number_with_one_more i m) (number_with_one_more i n) e)))
    (λ e. eq-eqb (number_with_one_more i m) (number_with_one_more i n) (ap (number_with_one_more i) (eqb-true m n e)))

other_than-more : (i n m : ℕ) → other_than (number_with_one_more i n) (number_with_one_more i m) ≡ option_map (number_with_one_more i) (other_than n m)
other_than-more i n m = ⊎_elim
    (λ e. cond-true (number_with_one_more i m == number_with_one_more i n) None (Some (number_with_one_more i m)) (eq-more i m n ∙ e) ∙ sym (ap (option_map (number_with_one_more i)) (cond-true (m == n) None (Some m) e)))
    (λ e. cond-false (number_with_one_more i m == number_with_one_more i n) None (Some (number_with_one_more i m)) (eq-more i m n ∙ e) ∙ sym (ap (option_map (number_with_one_more i)) (cond-false (m == n) None (Some m) e)))
    (cases_Bool (m == n))

pub first_named-insert : (i : ℕ) (text key : Text) (keys : List Text) → i ≤ length keys → is_named text key ≡ false →
    first_named text (insert keys i key) ≡ option_map (number_with_one_more i) (first_named text keys)
first_named-insert zero text key keys h e = cond-false (is_named text key) (Some zero) (option_map suc (first_named text keys)) e
first_named-insert (suc i) text key [] h e = absurd (not-suc-le-zero h)
first_named-insert (suc i) text key (k ∷ ks) h e = ⊎_elim
    (λ t. cond-true (is_named text k) (Some zero) (option_map suc (first_named text (insert ks i key))) t
    ∙ sym (ap (option_map (number_with_one_more (suc i))) (cond-true (is_named text k) (Some zero) (option_map suc (first_named text ks)) t)))
    (λ t. cond-false (is_named text k) (Some zero) (option_map suc (first_named text (insert ks i key))) t
    ∙ ap (option_map suc) (first_named-insert i text key ks (le_of_suc-le-suc h) e) ∙ more_suc i (first_named text ks)
    ∙ sym (ap (option_map (number_with_one_more (suc i))) (cond-false (is_named text k) (Some zero) (option_map suc (first_named text ks)) t)))
    (cases_Bool (is_named text k))

-- a text that names an earlier key names it still
pub first_named-early : (i : ℕ) (text key : Text) (keys : List Text) (m : ℕ) → i ≤ length keys → first_named text (insert keys i key) ≡ Some m → m < i →
    first_named text (insert keys i key) ≡ option_map (number_with_one_more i) (first_named text keys)
first_named-early zero text key keys m h e lt = absurd (not-suc-le-zero lt)
first_named-early (suc i) text key [] m h e lt = absurd (not-suc-le-zero h)
first_named-early (suc i) text key (k ∷ ks) m h e lt = ⊎_elim
    (λ t. cond-true (is_named text k) (Some zero) (option_map suc (first_named text (insert ks i key))) t
    ∙ sym (ap (option_map (number_with_one_more (suc i))) (cond-true (is_named text k) (Some zero) (option_map suc (first_named text ks)) t)))
    (λ t.
    let later = suc_some (first_named text (insert ks i key)) m (sym (cond-false (is_named text k) (Some zero) (option_map suc (first_named text (insert ks i key))) t) ∙ e) in
    let low = later.2 in
    cond-false (is_named text k) (Some zero) (option_map suc (first_named text (insert ks i key))) t
    ∙ ap (option_map suc) (first_named-early i text key ks later.0 (le_of_suc-le-suc h) later.1 (omega (arith, low, lt))) ∙ more_suc i (first_named text ks)
    ∙ sym (ap (option_map (number_with_one_more (suc i))) (cond-false (is_named text k) (Some zero) (option_map suc (first_named text ks)) t)))
    (cases_Bool (is_named text k))

-- ---- an entry more

-- each crossref names the entry that it named, by its new number, if the key is put in at i
abbrev pub IsCounted : ℕ → Text → List EntryTexts → Type 0
IsCounted i key entries = (n : ℕ) (entry : EntryTexts) (text : Text) → slice_get entries n ≡ Some entry → crossref_text entry ≡ Some text →
    first_named text (insert (keys_of entries) i key) ≡ option_map (number_with_one_more i) (first_named text (keys_of entries))

module _ (i : ℕ) (added : EntryTexts) (entries : List EntryTexts) (within : i ≤ length entries) (counted : IsCounted i added.key entries) where
  target_of_more : (n : ℕ) (entry : EntryTexts) → slice_get entries n ≡ Some entry → target_of (insert entries i added) entry ≡ option_map (number_with_one_more i) (target_of entries entry)
  target_of_more n entry at = ⊎_elim
      (λ none. ap (option_and_then (entry_named (insert entries i added))) none ∙ sym (ap (λ o. option_map (number_with_one_more i) (option_and_then (entry_named entries) o)) none))
      (λ some. ap (option_and_then (entry_named (insert entries i added))) some.1
      ∙ ap (first_named some.0) (keys-insert entries i added)
      ∙ counted n entry some.0 at some.1
      ∙ sym (ap (λ o. option_map (number_with_one_more i) (option_and_then (entry_named entries) o)) some.1))
      (option_cases (crossref_text entry))

  target_more : (n : ℕ) → target (insert entries i added) (number_with_one_more i n) ≡ option_map (number_with_one_more i) (target entries n)
  target_more n = ap (option_and_then (target_of (insert entries i added))) (slice_get-insert entries i added within n) ∙ ⊎_elim
      (λ none. ap (option_and_then (target_of (insert entries i added))) none
      ∙ sym (ap (λ o. option_map (number_with_one_more i) (option_and_then (target_of entries) o)) none))
      (λ some. ap (option_and_then (target_of (insert entries i added))) some.1
      ∙ target_of_more n some.0 some.1
      ∙ sym (ap (λ o. option_map (number_with_one_more i) (option_and_then (target_of entries) o)) some.1))
      (option_cases (slice_get entries n))

  other_more : (n : ℕ) (o : Option ℕ) → option_and_then (other_than (number_with_one_more i n)) (option_map (number_with_one_more i) o) ≡ option_map (number_with_one_more i) (option_and_then (other_than n) o)
  other_more n None = refl
  other_more n (Some m) = other_than-more i n m

  pub parent_more : (n : ℕ) → parent (insert entries i added) (number_with_one_more i n) ≡ option_map (number_with_one_more i) (parent entries n)
  parent_more n = ap (option_and_then (other_than (number_with_one_more i n))) (target_more n) ∙ other_more n (target entries n)

  fields_at_more : (n : ℕ) → fields_at (insert entries i added) (number_with_one_more i n) ≡ fields_at entries n
  fields_at_more n = ap (λ o. option_map_or own_fields o []) (slice_get-insert entries i added within n)

  inherited_more : (own : List RecordField) (ns : List ℕ) → with_inherited (insert entries i added) own (map (number_with_one_more i) ns) ≡ with_inherited entries own ns
  inherited_more own [] = refl
  inherited_more own (n ∷ ns) =
      ap (λ fields. with_inherited (insert entries i added) (own ++ missing own fields) (map (number_with_one_more i) ns)) (fields_at_more n)
      ∙ inherited_more (own ++ missing own (fields_at entries n)) ns

  visited_more : (visited : List ℕ) (m : ℕ) → list_any (λ v. v == number_with_one_more i m) (map (number_with_one_more i) visited) ≡ list_any (λ v. v == m) visited
  visited_more [] m = refl
  visited_more (v ∷ visited) m = ap₂ ◌||◌ (eq-more i v m) (visited_more visited m)

  unvisited_more : (visited : List ℕ) (o : Option ℕ) →
      option_and_then (unvisited (map (number_with_one_more i) visited)) (option_map (number_with_one_more i) o) ≡ option_map (number_with_one_more i) (option_and_then (unvisited visited) o)
  unvisited_more visited None = refl
  unvisited_more visited (Some m) = ⊎_elim
      (λ e. cond-true (list_any (λ v. v == number_with_one_more i m) (map (number_with_one_more i) visited)) None (Some (number_with_one_more i m)) (visited_more visited m ∙ e)
      ∙ sym (ap (option_map (number_with_one_more i)) (cond-true (list_any (λ v. v == m) visited) None (Some m) e)))
      (λ e. cond-false (list_any (λ v. v == number_with_one_more i m) (map (number_with_one_more i) visited)) None (Some (number_with_one_more i m)) (visited_more visited m ∙ e)
      ∙ sym (ap (option_map (number_with_one_more i)) (cond-false (list_any (λ v. v == m) visited) None (Some m) e)))
      (cases_Bool (list_any (λ v. v == m) visited))

  ancestors_more : (depth : ℕ) (visited : List ℕ) (n : ℕ) →
      ancestors_from (parent (insert entries i added)) depth (map (number_with_one_more i) visited) (number_with_one_more i n)
      ≡ map (number_with_one_more i) (ancestors_from (parent entries) depth visited n)
  ancestors_more zero visited n = refl
  ancestors_more (suc depth) visited n =
      let step : Option ℕ → List ℕ =
      λ o. option_map_or (λ m. m ∷ ancestors_from (parent (insert entries i added)) depth (m ∷ map (number_with_one_more i) visited) m) o [] in
      ap (λ o. step (option_and_then (unvisited (map (number_with_one_more i) visited)) o)) (parent_more n)
      ∙ ap step (unvisited_more visited (parent entries n))
      ∙ go (λ m. ancestors_more depth (m ∷ visited) m) (option_and_then (unvisited visited) (parent entries n))
    where
      go : ((m : ℕ) → ancestors_from (parent (insert entries i added)) depth (number_with_one_more i m ∷ map (number_with_one_more i) visited) (number_with_one_more i m)
          ≡ map (number_with_one_more i) (ancestors_from (parent entries) depth (m ∷ visited) m)) → (o : Option ℕ) →
          option_map_or (λ m. m ∷ ancestors_from (parent (insert entries i added)) depth (m ∷ map (number_with_one_more i) visited) m) (option_map (number_with_one_more i) o) []
          ≡ map (number_with_one_more i) (option_map_or (λ m. m ∷ ancestors_from (parent entries) depth (m ∷ visited) m) o [])
      go rest None = refl
      go rest (Some m) = ap (λ l. number_with_one_more i m ∷ l) (rest m)

  record_more : (depth n : ℕ) (entry : EntryTexts) → record_of depth (insert entries i added) (number_with_one_more i n) entry ≡ record_of depth entries n entry
  record_more depth n entry =
      ap (λ fields. let it : Record = record { kind_name = folded entry.kind; key = entry.key; fields = fields } in it)
      (ap (with_inherited (insert entries i added) (own_fields entry)) (ancestors_more depth (n ∷ []) n) ∙ inherited_more (own_fields entry) (ancestors entries depth n))

  pub expanded_more : (depth n : ℕ) → expanded depth (insert entries i added) (number_with_one_more i n) ≡ expanded depth entries n
  expanded_more depth n = ap (option_map (record_of depth (insert entries i added) (number_with_one_more i n))) (slice_get-insert entries i added within n) ∙ ⊎_elim
      (λ none. ap (option_map (record_of depth (insert entries i added) (number_with_one_more i n))) none ∙ sym (ap (option_map (record_of depth entries n)) none))
      (λ some. ap (option_map (record_of depth (insert entries i added) (number_with_one_more i n))) some.1 ∙ ap Some (record_more depth n some.0)
      ∙ sym (ap (option_map (record_of depth entries n)) some.1))
      (option_cases (slice_get entries n))
