-- The numbers of the items of a kind, when an item comes among others, or goes.
use Rattle.bib_numbers.proofs.Words.{◌≡◌, ℕ, suc, ◌+◌, ◌≤◌, ◌<◌, ◌^◌, List, [], ◌∷◌, ◌++◌, length, map, refl, sym, ◌∙◌, ap, ap₂, subst, arith, zero-add, AllByRecursion, PartAt, HaveNext}
use Rattle.std.proofs.Common.{Bool, true, false, cond}
use Rattle.std.proofs.lemmas.Bool.{cond-true, cond-false}
use Rattle.bib_spec.specs.Tree.{Tree}
use Rattle.bib_spec.specs.Reading.{Item}
use Rattle.bib_numbers.specs.Numbers.{numbered, numbers}

module _ (test : Tree → Bool) where
  first_number : (k : ℕ) (x : Item) (xs : List Item) → numbers test k (x ∷ xs) ≡ cond (test x.tree) (k ∷ numbers test (k + 1) xs) (numbers test (k + 1) xs)
  first_number k x xs = along (test x.tree)
    where
      along : (b : Bool) → map (λ (p : ℕ × Item). p.0) (cond b ((k, x) ∷ numbered test (k + 1) xs) (numbered test (k + 1) xs)) ≡ cond b (k ∷ numbers test (k + 1) xs) (numbers test (k + 1) xs)
      along true = refl
      along false = refl

  cond-append : (b : Bool) (k : ℕ) (xs ys : List ℕ) → cond b (k ∷ xs) xs ++ ys ≡ cond b (k ∷ (xs ++ ys)) (xs ++ ys)
  cond-append true k xs ys = refl
  cond-append false k xs ys = refl

  cond-next : (b : Bool) (k : ℕ) (xs : List ℕ) → map suc (cond b (k ∷ xs) xs) ≡ cond b (suc k ∷ map suc xs) (map suc xs)
  cond-next true k xs = refl
  cond-next false k xs = refl

  pub numbers-append : (k : ℕ) (xs ys : List Item) → numbers test k (xs ++ ys) ≡ numbers test k xs ++ numbers test (k + length xs) ys
  numbers-append k [] ys = let e : k ≡ k + 0 = omega arith in ap (λ (j : ℕ). numbers test j ys) e
  numbers-append k (x ∷ xs) ys =
      let e : k + 1 + length xs ≡ k + suc (length xs) = omega arith in
      first_number k x (xs ++ ys)
      ∙ ap (λ (l : List ℕ). cond (test x.tree) (k ∷ l) l) (numbers-append (k + 1) xs ys ∙ ap (λ (j : ℕ). numbers test (k + 1) xs ++ numbers test j ys) e)
      ∙ sym (ap (λ (l : List ℕ). l ++ numbers test (k + suc (length xs)) ys) (first_number k x xs) ∙ cond-append (test x.tree) k (numbers test (k + 1) xs) (numbers test (k + suc (length xs)) ys))

  pub numbers-next : (k : ℕ) (xs : List Item) → numbers test (k + 1) xs ≡ map suc (numbers test k xs)
  numbers-next k [] = refl
  numbers-next k (x ∷ xs) =
      let e : k + 1 ≡ suc k = omega arith in
      first_number (k + 1) x xs
      ∙ ap₂ (λ (j : ℕ) (l : List ℕ). cond (test x.tree) (j ∷ l) l) e (numbers-next (k + 1) xs)
      ∙ sym (ap (map suc) (first_number k x xs) ∙ cond-next (test x.tree) k (numbers test (k + 1) xs))

  below_more : (b : Bool) (k n : ℕ) (xs : List ℕ) → k < n → AllByRecursion (λ m. m < n) xs → AllByRecursion (λ m. m < n) (cond b (k ∷ xs) xs)
  below_more true k n xs h all = (h, all)
  below_more false k n xs h all = all

  pub numbers-below : (k : ℕ) (xs : List Item) → AllByRecursion (λ m. m < k + length xs) (numbers test k xs)
  numbers-below k [] = tt
  numbers-below k (x ∷ xs) =
      let e : k + 1 + length xs ≡ k + suc (length xs) = omega arith in
      let h : k < k + suc (length xs) = omega arith in
      subst (AllByRecursion (λ m. m < k + suc (length xs))) (sym (first_number k x xs))
      (below_more (test x.tree) k (k + suc (length xs)) (numbers test (k + 1) xs) h (subst (λ (n : ℕ). AllByRecursion (λ m. m < n) (numbers test (k + 1) xs)) e (numbers-below (k + 1) xs)))

  above_more : (b : Bool) (k n : ℕ) (xs : List ℕ) → n ≤ k → AllByRecursion (λ m. n ≤ m) xs → AllByRecursion (λ m. n ≤ m) (cond b (k ∷ xs) xs)
  above_more true k n xs h all = (h, all)
  above_more false k n xs h all = all

  pub numbers-above : (n k : ℕ) (xs : List Item) → n ≤ k → AllByRecursion (λ m. n ≤ m) (numbers test k xs)
  numbers-above n k [] h = tt
  numbers-above n k (x ∷ xs) h =
      subst (AllByRecursion (λ m. n ≤ m)) (sym (first_number k x xs)) (above_more (test x.tree) k n (numbers test (k + 1) xs) h (numbers-above n (k + 1) xs (omega (arith, h))))

  next_of : (n : ℕ) (xs : List ℕ) → n < 2 ^ 64 → AllByRecursion (λ m. m < n) xs → HaveNext xs
  next_of n [] h all = tt
  next_of n (m ∷ xs) h all = (let b = all.0 in omega (arith, b, h), next_of n xs h all.1)

  pub numbers-fit : (k : ℕ) (xs : List Item) → k + length xs < 2 ^ 64 → HaveNext (numbers test k xs)
  numbers-fit k xs h = next_of (k + length xs) (numbers test k xs) h (numbers-below k xs)

  -- those before an item, and those after it
  abbrev pub front_numbers : List Item → List ℕ
  front_numbers before = numbers test 0 before

  abbrev pub rest_numbers : List Item → List Item → List ℕ
  rest_numbers before after = numbers test (length before) after

  pub numbers-parts : (before after : List Item) → numbers test 0 (before ++ after) ≡ front_numbers before ++ rest_numbers before after
  numbers-parts before after = numbers-append 0 before after ∙ ap (λ (j : ℕ). numbers test 0 before ++ numbers test j after) (zero-add (length before))

  pub numbers-with : (before after : List Item) (x : Item) → test x.tree ≡ true → numbers test 0 (before ++ x ∷ after) ≡ front_numbers before ++ length before ∷ map suc (rest_numbers before after)
  numbers-with before after x t =
      numbers-parts before (x ∷ after)
      ∙ ap (λ (l : List ℕ). front_numbers before ++ l) (first_number (length before) x after ∙ cond-true (test x.tree) (length before ∷ numbers test (length before + 1) after) (numbers test (length before + 1) after) t
      ∙ ap (λ (l : List ℕ). length before ∷ l) (numbers-next (length before) after))

  pub numbers-past : (before after : List Item) (x : Item) → test x.tree ≡ false → numbers test 0 (before ++ x ∷ after) ≡ front_numbers before ++ map suc (rest_numbers before after)
  numbers-past before after x t =
      numbers-parts before (x ∷ after)
      ∙ ap (λ (l : List ℕ). front_numbers before ++ l) (first_number (length before) x after ∙ cond-false (test x.tree) (length before ∷ numbers test (length before + 1) after) (numbers test (length before + 1) after) t
      ∙ numbers-next (length before) after)

  pub parts_at : (n : ℕ) (before after : List Item) (now : List ℕ) → length before ≡ n → now ≡ front_numbers before ++ rest_numbers before after → PartAt n (front_numbers before) (rest_numbers before after) now
  parts_at n before after now count is = record {
    whole = is;
    below = subst (λ (k : ℕ). AllByRecursion (λ m. m < k) (front_numbers before)) (zero-add (length before) ∙ count) (numbers-below 0 before);
    above = numbers-above n (length before) after (let e : n ≤ length before = omega (arith, count) in e);
  }

-- the numbers of a kind, when an item comes or goes
module _ (test : Tree → Bool) (before after : List Item) (x : Item) (n : ℕ) (count : length before ≡ n) (fits : n + length after < 2 ^ 64) (old new : List ℕ) where
  fit : HaveNext (rest_numbers test before after)
  fit = numbers-fit test (length before) after (omega (arith, fits, count))

  parts_of : PartAt n (front_numbers test before) (rest_numbers test before after) (front_numbers test before ++ rest_numbers test before after)
  parts_of = parts_at test n before after (front_numbers test before ++ rest_numbers test before after) count refl

  pub put_numbers : test x.tree ≡ true → ((front rest : List ℕ) → PartAt n front rest old → HaveNext rest → new ≡ front ++ n ∷ map suc rest)
      → old ≡ numbers test 0 (before ++ after) → new ≡ numbers test 0 (before ++ x ∷ after)
  put_numbers t put is =
      put (front_numbers test before) (rest_numbers test before after) (parts_at test n before after old count (is ∙ numbers-parts test before after)) fit
      ∙ ap (λ (k : ℕ). front_numbers test before ++ k ∷ map suc (rest_numbers test before after)) (sym count) ∙ sym (numbers-with test before after x t)

  pub moved_numbers : test x.tree ≡ false → ((front rest : List ℕ) → PartAt n front rest old → HaveNext rest → new ≡ front ++ map suc rest)
      → old ≡ numbers test 0 (before ++ after) → new ≡ numbers test 0 (before ++ x ∷ after)
  moved_numbers t moved is =
      moved (front_numbers test before) (rest_numbers test before after) (parts_at test n before after old count (is ∙ numbers-parts test before after)) fit
      ∙ sym (numbers-past test before after x t)

  pub taken_numbers : test x.tree ≡ true → ((front rest : List ℕ) → PartAt n front rest (front ++ rest) → HaveNext rest → old ≡ front ++ n ∷ map suc rest → new ≡ front ++ rest)
      → old ≡ numbers test 0 (before ++ x ∷ after) → new ≡ numbers test 0 (before ++ after)
  taken_numbers t taken is =
      taken (front_numbers test before) (rest_numbers test before after) parts_of fit
      (is ∙ numbers-with test before after x t ∙ ap (λ (k : ℕ). front_numbers test before ++ k ∷ map suc (rest_numbers test before after)) count)
      ∙ sym (numbers-parts test before after)

  pub closed_numbers : test x.tree ≡ false → ((front rest : List ℕ) → PartAt n front rest (front ++ rest) → HaveNext rest → old ≡ front ++ map suc rest → new ≡ front ++ rest)
      → old ≡ numbers test 0 (before ++ x ∷ after) → new ≡ numbers test 0 (before ++ after)
  closed_numbers t closed is =
      closed (front_numbers test before) (rest_numbers test before after) parts_of fit (is ∙ numbers-past test before after x t) ∙ sym (numbers-parts test before after)
