-- A list has one stable rising order.
use Rattle.std.proofs.Common.{◌≡◌, ◌∙◌, ℕ, zero, suc, ◌+◌, ◌<◌, ◌≤◌, Bool, true, false, not, cond, List, [], ◌∷◌, length, get_or, filter, refl, sym, ap, subst, arith, true≢false, IsPermutation, IsSortedBy}
use Rattle.std.specs.Prelude.{⊤}
use Rattle.std.specs.Cmp.{IsStrictWeakOrder}
use Rattle.std.specs.List.Sorted.{ties, IsStableBy}
use Rattle.std.proofs.lemmas.Bool.{and_parts, not-true, cond-true, false_from_ne_true}
use Rattle.std.proofs.lemmas.List.Sorted.{sorted_far, IsPermutation-refl, IsPermutation-cons, IsPermutation-middle, IsPermutation-trans}
use Rattle.bibtex_labels.specs.Order.{put_by, sorted_by}

[]≢cons : {X : Type 0} (x : X) (xs : List X) → [] ≡ x ∷ xs → ⊥
[]≢cons x xs e = cc

head_is : {X : Type 0} (x y : X) (xs ys : List X) → x ∷ xs ≡ y ∷ ys → x ≡ y
head_is x y xs ys e = ap (λ l. get_or l 0 x) e

tail_of : {X : Type 0} → List X → List X
tail_of [] = []
tail_of (x ∷ xs) = xs

tail_is : {X : Type 0} (x y : X) (xs ys : List X) → x ∷ xs ≡ y ∷ ys → xs ≡ ys
unfolding tail_of
tail_is x y xs ys e = ap tail_of e

module _ {X : Type 0} (lt : X → X → Bool) (o : IsStrictWeakOrder lt) where
  -- none of the members is below x
  abbrev Above : X → List X → Type 0
  Above x [] = ⊤
  Above x (y ∷ ys) = (lt y x ≡ false) × Above x ys

  -- none of the members is below one before it
  abbrev Up : List X → Type 0
  Up [] = ⊤
  Up (x ∷ xs) = Above x xs × Up xs

  itself : (x : X) → lt x x ≡ false
  itself x = false_from_ne_true (lt x x) (λ e. true≢false (sym e ∙ o.one_way x x e))

  ties_parts : (x y : X) → ties lt x y ≡ true → (lt x y ≡ false) × (lt y x ≡ false)
  ties_parts x y e = let p = and_parts (not (lt x y)) (not (lt y x)) e in (not-true _ p.0, not-true _ p.1)

  ties_from : (x y : X) → lt x y ≡ false → lt y x ≡ false → ties lt x y ≡ true
  ties_from x y p q = rw (p, q) refl

  ties_itself : (x : X) → ties lt x x ≡ true
  ties_itself x = ties_from x x (itself x) (itself x)

  -- ---- one order

  -- a list that has a member which ties with a begins with one that is not above a
  not_above : (a b : X) (bs zs : List X) → Above b bs → filter (ties lt a) bs ≡ a ∷ zs → lt a b ≡ false
  not_above a b [] zs up e = absurd ([]≢cons a zs e)
  not_above a b (z ∷ bs) zs up e = by (λ h. not_above a b bs zs up.1 h) (ties lt a z) refl e
    where
      by : (filter (ties lt a) bs ≡ a ∷ zs → lt a b ≡ false) → (t : Bool) → ties lt a z ≡ t → cond t (z ∷ filter (ties lt a) bs) (filter (ties lt a) bs) ≡ a ∷ zs → lt a b ≡ false
      by later true is h = o.chain a z b (ties_parts a z is).0 up.0
      by later false is h = later h

  pub one_order : (xs ys : List X) → Up xs → Up ys → ((x : X) → filter (ties lt x) xs ≡ filter (ties lt x) ys) → xs ≡ ys
  one_order [] [] up vp same = refl
  one_order [] (y ∷ ys) up vp same = absurd ([]≢cons y _ (same y ∙ cond-true (ties lt y y) (y ∷ filter (ties lt y) ys) (filter (ties lt y) ys) (ties_itself y)))
  one_order (x ∷ xs) [] up vp same = absurd ([]≢cons x _ (sym (same x) ∙ cond-true (ties lt x x) (x ∷ filter (ties lt x) xs) (filter (ties lt x) xs) (ties_itself x)))
  one_order (x ∷ xs) (y ∷ ys) up vp same =
      let fx : filter (ties lt x) (x ∷ xs) ≡ x ∷ filter (ties lt x) xs = cond-true (ties lt x x) (x ∷ filter (ties lt x) xs) (filter (ties lt x) xs) (ties_itself x) in
      let fy : filter (ties lt y) (y ∷ ys) ≡ y ∷ filter (ties lt y) ys = cond-true (ties lt y y) (y ∷ filter (ties lt y) ys) (filter (ties lt y) ys) (ties_itself y) in
      let xy : lt x y ≡ false = not_above x y (y ∷ ys) _ (itself y, vp.0) (sym (same x) ∙ fx) in
      let yx : lt y x ≡ false = not_above y x (x ∷ xs) _ (itself x, up.0) (same y ∙ fy) in
      let gx : filter (ties lt x) (y ∷ ys) ≡ y ∷ filter (ties lt x) ys = cond-true (ties lt x y) (y ∷ filter (ties lt x) ys) (filter (ties lt x) ys) (ties_from x y xy yx) in
      let is : x ≡ y = head_is x y _ _ (sym fx ∙ same x ∙ gx) in
      let rest = one_order xs ys up.1 vp.1 (λ z. rest_same z is) in
      subst (λ w. x ∷ xs ≡ w ∷ ys) is (ap (λ l. x ∷ l) rest)
    where
      rest_by : (b : Bool) (us vs : List X) → cond b (x ∷ us) us ≡ cond b (x ∷ vs) vs → us ≡ vs
      rest_by true us vs h = tail_is x x us vs h
      rest_by false us vs h = h

      rest_same : (z : X) → x ≡ y → filter (ties lt z) xs ≡ filter (ties lt z) ys
      rest_same z is = rest_by (ties lt z x) _ _ (subst (λ w. filter (ties lt z) (x ∷ xs) ≡ filter (ties lt z) (w ∷ ys)) (sym is) (same z))

  -- ---- from a list that is sorted

  above_of : (x : X) (xs : List X) → ((k : ℕ) → k < length xs → lt (get_or xs k x) x ≡ false) → Above x xs
  above_of x [] h = tt
  above_of x (y ∷ ys) h = (h 0 (omega arith), above_of x ys (λ k p. h (suc k) (omega arith)))

  up_of : (xs : List X) → ((i j : ℕ) (d : X) → i ≤ j → j < length xs → lt (get_or xs j d) (get_or xs i d) ≡ false) → Up xs
  up_of [] h = tt
  up_of (x ∷ xs) h = (above_of x xs (λ k p. h 0 (suc k) x (omega arith) (omega arith)), up_of xs (λ i j d p q. h (suc i) (suc j) d (omega arith) (omega arith)))

  pub up_of_sorted : (xs : List X) → IsSortedBy lt xs → Up xs
  up_of_sorted xs sorted = up_of xs (sorted_far lt o xs sorted)

  next_up : (xs : List X) (k : ℕ) (d : X) → Up xs → suc k < length xs → lt (get_or xs (suc k) d) (get_or xs k d) ≡ false
  next_up [] k d up within = absurd (omega arith)
  next_up (x ∷ []) k d up within = absurd (omega arith)
  next_up (x ∷ y ∷ xs) zero d up within = up.0.0
  next_up (x ∷ y ∷ xs) (suc k) d up within = next_up (y ∷ xs) k d up.1 (omega arith)

  pub sorted_of_up : (xs : List X) → Up xs → IsSortedBy lt xs
  sorted_of_up xs up k d low high =
      let next : k + 1 ≡ suc k = omega arith in
      subst (λ n. lt (get_or xs n d) (get_or xs k d) ≡ false) (sym next) (next_up xs k d up (omega arith))

  -- ---- `sorted_by` is such an order

  above_put : (z x : X) (ys : List X) → lt x z ≡ false → Above z ys → Above z (put_by lt x ys)
  above_put z x [] p up = (p, tt)
  above_put z x (y ∷ ys) p up = by (above_put z x ys p up.1) (lt y x)
    where
      by : Above z (put_by lt x ys) → (b : Bool) → Above z (cond b (y ∷ put_by lt x ys) (x ∷ y ∷ ys))
      by later true = (up.0, later)
      by later false = (p, up)

  above_all : (x y : X) (ys : List X) → lt y x ≡ false → Above y ys → Above x ys
  above_all x y [] p up = tt
  above_all x y (z ∷ ys) p up = (o.chain z y x up.0 p, above_all x y ys p up.1)

  up_put : (x : X) (ys : List X) → Up ys → Up (put_by lt x ys)
  up_put x [] up = (tt, tt)
  up_put x (y ∷ ys) up = by (up_put x ys up.1) (lt y x) refl
    where
      by : Up (put_by lt x ys) → (b : Bool) → lt y x ≡ b → Up (cond b (y ∷ put_by lt x ys) (x ∷ y ∷ ys))
      by later true is = (above_put y x ys (o.one_way y x is) up.0, later)
      by later false is = ((is, above_all x y ys is up.0), up)

  pub up_sorted : (xs : List X) → Up (sorted_by lt xs)
  up_sorted [] = tt
  up_sorted (x ∷ xs) = up_put x (sorted_by lt xs) (up_sorted xs)

  stable_put : (z x : X) (ys : List X) → filter (ties lt z) (put_by lt x ys) ≡ filter (ties lt z) (x ∷ ys)
  stable_put z x [] = refl
  stable_put z x (y ∷ ys) = by (stable_put z x ys) (lt y x) refl
    where
      swapped : (b c : Bool) → ties lt z x ≡ b → ties lt z y ≡ c → lt y x ≡ true → (l : List X) → cond c (y ∷ cond b (x ∷ l) l) (cond b (x ∷ l) l) ≡ cond b (x ∷ cond c (y ∷ l) l) (cond c (y ∷ l) l)
      swapped true true zx zy yx l = absurd (true≢false (sym yx ∙ o.chain y z x (ties_parts z y zy).1 (ties_parts z x zx).0))
      swapped true false zx zy yx l = refl
      swapped false true zx zy yx l = refl
      swapped false false zx zy yx l = refl

      by : filter (ties lt z) (put_by lt x ys) ≡ filter (ties lt z) (x ∷ ys) → (b : Bool) → lt y x ≡ b → filter (ties lt z) (cond b (y ∷ put_by lt x ys) (x ∷ y ∷ ys)) ≡ filter (ties lt z) (x ∷ y ∷ ys)
      by later true is =
          ap (λ l. cond (ties lt z y) (y ∷ l) l) later ∙ swapped (ties lt z x) (ties lt z y) refl refl is (filter (ties lt z) ys)
      by later false is = refl

  pub stable_sorted : (xs : List X) → IsStableBy lt xs (sorted_by lt xs)
  stable_sorted [] z = refl
  stable_sorted (x ∷ xs) z = stable_put z x (sorted_by lt xs) ∙ ap (λ l. cond (ties lt z x) (x ∷ l) l) (stable_sorted xs z)

  same_put : (x : X) (ys : List X) → IsPermutation (x ∷ ys) (put_by lt x ys)
  same_put x [] = IsPermutation-refl (x ∷ [])
  same_put x (y ∷ ys) = by (same_put x ys) (lt y x)
    where
      by : IsPermutation (x ∷ ys) (put_by lt x ys) → (b : Bool) → IsPermutation (x ∷ y ∷ ys) (cond b (y ∷ put_by lt x ys) (x ∷ y ∷ ys))
      by later true = IsPermutation-trans (x ∷ y ∷ ys) (y ∷ x ∷ ys) (y ∷ put_by lt x ys) (IsPermutation-middle (x ∷ []) y ys) (IsPermutation-cons y (x ∷ ys) (put_by lt x ys) later)
      by later false = IsPermutation-refl (x ∷ y ∷ ys)

  pub same_sorted : (xs : List X) → IsPermutation xs (sorted_by lt xs)
  same_sorted [] = IsPermutation-refl []
  same_sorted (x ∷ xs) = IsPermutation-trans (x ∷ xs) (x ∷ sorted_by lt xs) (put_by lt x (sorted_by lt xs)) (IsPermutation-cons x xs (sorted_by lt xs) (same_sorted xs)) (same_put x (sorted_by lt xs))

  -- a rising list in which those that tie are as in another is that one, sorted
  pub is_sorted_by : (xs ys : List X) → IsSortedBy lt ys → IsStableBy lt xs ys → ys ≡ sorted_by lt xs
  is_sorted_by xs ys sorted stable = one_order ys (sorted_by lt xs) (up_of_sorted ys sorted) (up_sorted xs) (λ z. stable z ∙ sym (stable_sorted xs z))
