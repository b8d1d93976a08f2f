-- The numbers of the items that define a name: they rise, and those below a number are counted.
use Rattle.std.proofs.Common.{◌≡◌, ℕ, zero, suc, ◌+◌, ◌≤◌, ◌<◌, nat_lt, Bool, true, false, List, [], ◌∷◌, ◌++◌, Option, Some, None, unwrap_or, slice_get, not-suc-le-zero, le_of_suc-le-suc, slice_index_or, length, take, count_by, ⊎_elim, refl, sym, ◌∙◌, ap, subst, arith, if◌then◌else◌}
use Rattle.std.specs.List.{AllWithin}
use Rattle.std.specs.List.Sorted.{IsPartitionPoint, IsNonDecreasingBy}
use Rattle.std.proofs.lemmas.Bool.{cases_Bool, cond-true, cond-false, lt-ltb, le-ltb}
use Rattle.std.proofs.lemmas.List.{length-take-le}
use Rattle.bib_spec.specs.Text.{Text, folded}
use Rattle.bib_spec.specs.Reading.{Item}
use Rattle.bib_spec.proofs.Counts.{count-yes, count-no}
use Rattle.bib_definitions.specs.Definitions.{is_definition_of, definition_count}
use Rattle.folded_map.specs.FoldedMap.{value_at}
use Rattle.bib_uses.proofs.UsesRead.{take-next}
use Rattle.bib_uses.specs.Seen.{Numbers, numbers_of, numbers_defining, AreDefined}

-- ---- counts

-- as many pass as there are before the point
pub passed : {X : Type 0} (p : X → Bool) (xs : List X) (i : ℕ) → i ≤ length xs → AllWithin (λ y. p y ≡ true) xs 0 i → AllWithin (λ y. p y ≡ false) xs i (length xs) → i ≡ count_by p xs
passed p [] i le passes fails = omega (arith, le)
passed p (x ∷ xs) zero le passes fails =
    passed p xs zero (omega arith) (λ k d low high. absurd (omega (arith, high))) (λ k d low high. fails (suc k) d (omega arith) (omega (arith, high)))
    ∙ sym (count-no p x xs (fails 0 x (omega arith) (omega arith)))
passed p (x ∷ xs) (suc i) le passes fails =
    let rest = passed p xs i (omega (arith, le)) (λ k d low high. passes (suc k) d (omega arith) (omega (arith, high))) (λ k d low high. fails (suc k) d (omega (arith, low)) (omega (arith, high))) in
    let one = count-yes p x xs (passes 0 x (omega arith) (omega arith)) in
    omega (arith, rest, one)

pub passed-point : (n : ℕ) (xs : List ℕ) (i : ℕ) → i ≤ length xs → IsPartitionPoint (λ m. nat_lt m n ≡ true) (λ m. nat_lt m n ≡ false) xs i → i ≡ count_by (λ m. nat_lt m n) xs
passed-point n xs i le at = passed (λ m. nat_lt m n) xs i le at.0 at.1

-- ---- the numbers rise

module _ (name : Text) where
  defines : (k : ℕ) (item : Item) (items : List Item) → is_definition_of name item.tree ≡ true → numbers_defining name k (item ∷ items) ≡ k ∷ numbers_defining name (k + 1) items
  defines k item items e = cond-true (is_definition_of name item.tree) (k ∷ numbers_defining name (k + 1) items) (numbers_defining name (k + 1) items) e

  other : (k : ℕ) (item : Item) (items : List Item) → is_definition_of name item.tree ≡ false → numbers_defining name k (item ∷ items) ≡ numbers_defining name (k + 1) items
  other k item items e = cond-false (is_definition_of name item.tree) (k ∷ numbers_defining name (k + 1) items) (numbers_defining name (k + 1) items) e

  abbrev AreLeast : ℕ → List ℕ → Type 0
  AreLeast k ns = (j d : ℕ) → j < length ns → k ≤ slice_index_or ns j d

  least : (k : ℕ) (items : List Item) → AreLeast k (numbers_defining name k items)
  least k [] = λ j d low. absurd (omega (arith, low))
  least k (item ∷ items) = ⊎_elim
      (λ e. subst (AreLeast k) (sym (defines k item items e)) (first (least (k + 1) items)))
      (λ e. subst (AreLeast k) (sym (other k item items e)) (λ j d low. let le = least (k + 1) items j d low in omega (arith, le)))
      (cases_Bool (is_definition_of name item.tree))
    where
      first : AreLeast (k + 1) (numbers_defining name (k + 1) items) → AreLeast k (k ∷ numbers_defining name (k + 1) items)
      first rest zero d low = omega arith
      first rest (suc j) d low = let le = rest j d (omega (arith, low)) in omega (arith, le)

  pub rise : (k : ℕ) (items : List Item) → IsNonDecreasingBy (λ m. m) (numbers_defining name k items)
  rise k [] = λ i j d le low. absurd (omega (arith, low))
  rise k (item ∷ items) = ⊎_elim
      (λ e. subst (IsNonDecreasingBy (λ m. m)) (sym (defines k item items e)) (first (rise (k + 1) items)))
      (λ e. subst (IsNonDecreasingBy (λ m. m)) (sym (other k item items e)) (rise (k + 1) items))
      (cases_Bool (is_definition_of name item.tree))
    where
      first : IsNonDecreasingBy (λ m. m) (numbers_defining name (k + 1) items) → IsNonDecreasingBy (λ m. m) (k ∷ numbers_defining name (k + 1) items)
      first rest zero zero d le low = omega arith
      first rest zero (suc j) d le low = let more = least (k + 1) items j d (omega (arith, low)) in omega (arith, more)
      first rest (suc i) zero d le low = absurd (omega (arith, le))
      first rest (suc i) (suc j) d le low = rest i j d (omega (arith, le)) (omega (arith, low))

  -- ---- those below a number

  none-below : (n : ℕ) (ns : List ℕ) → AreLeast n ns → count_by (λ m. nat_lt m n) ns ≡ 0
  none-below n [] all = refl
  none-below n (m ∷ ns) all = count-no (λ m. nat_lt m n) m ns (le-ltb m n (all 0 m (omega arith))) ∙ none-below n ns (λ j d low. all (suc j) d (omega (arith, low)))

  take-none : (n : ℕ) → take {A = Item} n [] ≡ []
  take-none zero = refl
  take-none (suc n) = refl

  pub counted : (k m : ℕ) (items : List Item) → count_by (λ j. nat_lt j (k + m)) (numbers_defining name k items) ≡ definition_count name (take m items)
  counted k m [] = ap (definition_count name) (sym (take-none m))
  counted k zero (item ∷ items) = none-below (k + 0) (numbers_defining name k (item ∷ items)) (λ j d low. let le = least k (item ∷ items) j d low in omega (arith, le))
  counted k (suc m) (item ∷ items) =
      let same : k + suc m ≡ k + 1 + m = omega arith in
      let rest = ap (λ (n : ℕ). count_by (λ j. nat_lt j n) (numbers_defining name (k + 1) items)) same ∙ counted (k + 1) m items in
      ⊎_elim
      (λ e. ap (count_by (λ j. nat_lt j (k + suc m))) (defines k item items e)
      ∙ count-yes (λ j. nat_lt j (k + suc m)) k (numbers_defining name (k + 1) items) (lt-ltb k (k + suc m) (omega arith))
      ∙ ap (λ (n : ℕ). 1 + n) rest
      ∙ sym (count-yes (λ (i : Item). is_definition_of name i.tree) item (take m items) e))
      (λ e. ap (count_by (λ j. nat_lt j (k + suc m))) (other k item items e) ∙ rest ∙ sym (count-no (λ (i : Item). is_definition_of name i.tree) item (take m items) e))
      (cases_Bool (is_definition_of name item.tree))

  -- ---- one item more

  pub defined-more : (k : ℕ) (items : List Item) (item : Item) →
      numbers_defining name k (items ++ item ∷ []) ≡ numbers_defining name k items ++ (if is_definition_of name item.tree then (k + length items) ∷ [] else [])
  defined-more k [] item = ap (λ (n : ℕ). if is_definition_of name item.tree then n ∷ [] else []) (omega arith)
  defined-more k (first ∷ items) item =
      let rest = defined-more (k + 1) items item ∙ ap (λ (n : ℕ). numbers_defining name (k + 1) items ++ (if is_definition_of name item.tree then n ∷ [] else [])) (omega arith) in
      ⊎_elim
      (λ e. defines k first (items ++ item ∷ []) e ∙ ap (λ (l : List ℕ). k ∷ l) rest ∙ sym (ap (λ (l : List ℕ). l ++ last) (defines k first items e)))
      (λ e. other k first (items ++ item ∷ []) e ∙ rest ∙ sym (ap (λ (l : List ℕ). l ++ last) (other k first items e)))
      (cases_Bool (is_definition_of name first.tree))
    where
      last : List ℕ
      last = if is_definition_of name item.tree then (k + suc (length items)) ∷ [] else []

-- ---- a name

-- what is found of a name
pub found : (items : List Item) (defined : Numbers) (name : Text) (numbers : List ℕ) → AreDefined items defined → Some numbers ≡ value_at defined (folded name) → numbers ≡ numbers_defining name 0 items
found items defined name numbers are is = ap (λ (o : Option (List ℕ)). unwrap_or o []) is ∙ are name

pub not_found : (items : List Item) (defined : Numbers) (name : Text) → AreDefined items defined → None ≡ value_at defined (folded name) → [] ≡ numbers_defining name 0 items
not_found items defined name are is = ap (λ (o : Option (List ℕ)). unwrap_or o []) is ∙ are name

-- the count of those before an item
pub counted-found : (items : List Item) (name : Text) (numbers : List ℕ) (n count : ℕ) → numbers ≡ numbers_defining name 0 items → (IsNonDecreasingBy (λ m. m) numbers → count ≡ count_by (λ m. nat_lt m n) numbers)
    → count ≡ definition_count name (take n items)
counted-found items name numbers n count is counts =
    counts (subst (IsNonDecreasingBy (λ m. m)) (sym is) (rise name 0 items))
    ∙ ap (count_by (λ m. nat_lt m n)) is
    ∙ ap (λ (k : ℕ). count_by (λ m. nat_lt m k) (numbers_defining name 0 items)) (omega arith)
    ∙ counted name 0 n items

-- ---- items one after another

pub item-within : {X : Type 0} (xs : List X) (n : ℕ) → n < length xs → (x : X) × (slice_get xs n ≡ Some x)
item-within [] n lt = absurd (not-suc-le-zero lt)
item-within (x ∷ xs) zero lt = (x, refl)
item-within (x ∷ xs) (suc n) lt = item-within xs n (le_of_suc-le-suc lt)

-- the next item
pub defined-taken : (items : List Item) (n : ℕ) (i : Item) (old new : Numbers) → slice_get items n ≡ Some i → n < length items → AreDefined (take n items) old →
    ((name : Text) → numbers_of new (folded name) ≡ numbers_of old (folded name) ++ (if is_definition_of name i.tree then n ∷ [] else [])) → AreDefined (take (n + 1) items) new
defined-taken items n i old new at within are more name =
    let long = length-take-le n items (omega (arith, within)) in
    more name
    ∙ ap (λ (l : List ℕ). l ++ (if is_definition_of name i.tree then n ∷ [] else [])) (are name)
    ∙ ap (λ (k : ℕ). numbers_defining name 0 (take n items) ++ (if is_definition_of name i.tree then k ∷ [] else [])) (omega (arith, long))
    ∙ sym (defined-more name 0 (take n items) i)
    ∙ ap (numbers_defining name 0) (sym (take-next items n i at))
