-- The number of elements up to the last one that passes a test.
use Rattle.std.proofs.Common.{◌≡◌, ℕ, zero, suc, ◌+◌, ◌≤◌, ◌<◌, Bool, true, false, cond, List, [], ◌∷◌, ◌++◌, length, take, get_or, refl, sym, ap, ◌∙◌, arith}
use Rattle.std.specs.Prelude.{◌||◌, not}
use Rattle.std.specs.List.{list_any, prefix_len}
use Rattle.std.proofs.lemmas.List.{take_all, take_more, length-take-le}
use Rattle.bib_text.specs.Trimming.{up_to_last, before_run}

any-snoc-yes : {A : Type 0} (p : A → Bool) (xs : List A) (x : A) → p x ≡ true → list_any p (xs ++ x ∷ []) ≡ true
any-snoc-yes p [] x passes = rw passes refl
any-snoc-yes p (y ∷ ys) x passes = rw (any-snoc-yes p ys x passes) (elim (p y) as (λ b. b || true ≡ true) [ true ↦ refl | false ↦ refl ])

any-snoc-no : {A : Type 0} (p : A → Bool) (xs : List A) (x : A) → p x ≡ false → list_any p (xs ++ x ∷ []) ≡ list_any p xs
any-snoc-no p [] x fails = rw fails refl
any-snoc-no p (y ∷ ys) x fails = ap (λ b. p y || b) (any-snoc-no p ys x fails)

pub up_to_last-snoc-yes : {A : Type 0} (p : A → Bool) (xs : List A) (x : A) → p x ≡ true → up_to_last p (xs ++ x ∷ []) ≡ suc (length xs)
up_to_last-snoc-yes p [] x passes = rw passes refl
up_to_last-snoc-yes p (y ∷ ys) x passes = rw (any-snoc-yes p (y ∷ ys) x passes, up_to_last-snoc-yes p ys x passes) refl

pub up_to_last-snoc-no : {A : Type 0} (p : A → Bool) (xs : List A) (x : A) → p x ≡ false → up_to_last p (xs ++ x ∷ []) ≡ up_to_last p xs
up_to_last-snoc-no p [] x fails = rw fails refl
up_to_last-snoc-no p (y ∷ ys) x fails = rw (any-snoc-no p (y ∷ ys) x fails, up_to_last-snoc-no p ys x fails) refl

-- of the elements before `top`, none from `end` on passes the test `keep`
pub record IsTrimming {A : Type 0} (keep : A → Bool) (xs : List A) (top end : ℕ) : Type 0 where
  pub within : end ≤ top
  pub inside : top ≤ length xs
  pub kept : up_to_last keep (take end xs) ≡ up_to_last keep (take top xs)

-- one more element at the end does not pass
pub IsTrimming-less : {A : Type 0} (keep : A → Bool) (xs : List A) (top end last : ℕ) (d : A) → end ≡ last + 1 → IsTrimming keep xs top end → keep (get_or xs last d) ≡ false → IsTrimming keep xs top last
IsTrimming-less keep xs top end last d is trimming fails =
    let more : take end xs ≡ take last xs ++ get_or xs last d ∷ [] = ap (λ n. take n xs) is ∙ take_more xs last d (omega (arith, trimming.within, trimming.inside)) in
    record {
      within = omega (arith, trimming.within);
      inside = trimming.inside;
      kept = sym (up_to_last-snoc-no keep (take last xs) (get_or xs last d) fails) ∙ ap (up_to_last keep) (sym more) ∙ trimming.kept;
    }

-- no element passes
pub IsTrimming-none : {A : Type 0} (keep : A → Bool) (xs : List A) (top end : ℕ) → end ≡ 0 → IsTrimming keep xs top end → end ≡ up_to_last keep (take top xs)
IsTrimming-none keep xs top end is trimming = is ∙ sym (ap (λ n. up_to_last keep (take n xs)) is) ∙ trimming.kept

-- the last element that passes was reached
pub IsTrimming-done : {A : Type 0} (keep : A → Bool) (xs : List A) (top end last : ℕ) (d : A) → end ≡ last + 1 → IsTrimming keep xs top end → keep (get_or xs last d) ≡ true → end ≡ up_to_last keep (take top xs)
IsTrimming-done keep xs top end last d is trimming passes =
    let more : take end xs ≡ take last xs ++ get_or xs last d ∷ [] = ap (λ n. take n xs) is ∙ take_more xs last d (omega (arith, trimming.within, trimming.inside)) in
    let len : length (take last xs) ≡ last = length-take-le last xs (omega (arith, trimming.within, trimming.inside)) in
    let whole = ap (up_to_last keep) more ∙ up_to_last-snoc-yes keep (take last xs) (get_or xs last d) passes ∙ ap suc len in
    omega (arith, is, whole, trimming.kept)

-- the text up to its last byte outside the class
pub trimmed_at : (test : ℕ → Bool) (text : List ℕ) (end : ℕ) → end ≡ up_to_last (λ b. not (test b)) (take (length text) text) → take end text ≡ before_run test text
trimmed_at test text end is =
    let whole : take (length text) text ≡ text = take_all (length text) text (omega arith) in
    ap (λ n. take n text) (is ∙ ap (up_to_last (λ b. not (test b))) whole)

-- if some element passes, the number is not 0
any_up : {A : Type 0} (p : A → Bool) (xs : List A) → list_any p xs ≡ true → 0 < up_to_last p xs
any_up p [] some = absurd (cc)
any_up p (x ∷ xs) some = rw some (omega arith)

-- the first element that passes is not after the last
pub prefix_len-le-up_to_last : {A : Type 0} (p : A → Bool) (k : ℕ) (xs : List A) → 0 < up_to_last p (take k xs) → prefix_len (λ x. not (p x)) xs ≤ up_to_last p (take k xs)
prefix_len-le-up_to_last p zero xs some = absurd (omega arith)
prefix_len-le-up_to_last p (suc k) [] some = omega arith
prefix_len-le-up_to_last p (suc k) (x ∷ xs) some = go (λ h. prefix_len-le-up_to_last p k xs h) (p x) (list_any p (take k xs)) refl refl some
  where
    go : (0 < up_to_last p (take k xs) → prefix_len (λ y. not (p y)) xs ≤ up_to_last p (take k xs)) → (b c : Bool) → p x ≡ b → list_any p (take k xs) ≡ c → 0 < cond (p x || list_any p (take k xs)) (suc (up_to_last p (take k xs))) 0 → cond (not (p x)) (1 + prefix_len (λ y. not (p y)) xs) 0 ≤ cond (p x || list_any p (take k xs)) (suc (up_to_last p (take k xs))) 0
    go later true c e f h = rw e (omega arith)
    go later false true e f h = let rest = later (any_up p (take k xs) f) in rw (e, f) (omega arith)
    go later false false e f h = let none : 0 < 0 = rw (e, f) at h in absurd (omega arith)
