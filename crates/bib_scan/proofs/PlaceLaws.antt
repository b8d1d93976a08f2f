-- For every kind of text: where it goes wrong, and what is wrong there.
use Rattle.bib_scan.proofs.Words.{◌≡◌, ℕ, ◌+◌, ◌-◌, ◌<◌, ◌≤◌, [], ◌∷◌, ◌++◌, length, take, drop, refl, sym, ap, subst, ◌∙◌, arith, append_assoc, inl, inr, ◌⊎◌, length-append, take-append-drop, take_at, take-take, Text, IsViable, FailsAt, quote, comma, digit_one, letter_x, TextKind, MayStand}
use Rattle.bib_scan.proofs.Words.{IsOneTooLong, IsFaultAt, ReadingFault, Unended, ExpectedName, ExpectedEquals, ExpectedCommaOrClose, ExpectedValue, UnbalancedBrace, KeyTooLong}
use Rattle.bib_spec.specs.Bytes.{equals_sign}
use Rattle.bib_spec.specs.Fault as fault

-- ---- fronts of texts

pub viable_front : (IsSuch : Text → Type 0) (u v : Text) → IsViable IsSuch (u ++ v) → IsViable IsSuch u
viable_front IsSuch u v (more, is) = (v ++ more, subst IsSuch (append_assoc u v more) is)

pub viable_take : (IsSuch : Text → Type 0) (p q : ℕ) (t : Text) → p ≤ q → IsViable IsSuch (take q t) → IsViable IsSuch (take p t)
viable_take IsSuch p q t less is =
    let short : take p (take q t) ≡ take p t = take-take p q t less in
    let whole : take q t ≡ take p t ++ drop p (take q t) = sym (take-append-drop p (take q t)) ∙ ap (λ (u : Text). u ++ drop p (take q t)) short in
    viable_front IsSuch (take p t) (drop p (take q t)) (subst (IsViable IsSuch) whole is)

-- the front of a text up to the place of its end r
pub front_cut : (t u r : Text) → t ≡ u ++ r → take (length t - length r) t ≡ u
front_cut t u r split =
    let len : length t - length r ≡ length u = omega (arith, ap (length {A = ℕ}) split, length-append u r) in
    ap (take (length t - length r)) split ∙ take_at u r _ (sym len)

pub front_more : (t u : Text) (c : ℕ) (v : Text) → t ≡ u ++ c ∷ v → take (length t - length (c ∷ v) + 1) t ≡ u ++ c ∷ []
front_more t u c v split =
    let len : length t - length (c ∷ v) + 1 ≡ length (u ++ c ∷ []) = omega (arith, ap (length {A = ℕ}) split, length-append u (c ∷ v), length-append u (c ∷ [])) in
    ap (take (length t - length (c ∷ v) + 1)) (split ∙ sym (append_assoc u (c ∷ []) v)) ∙ take_at (u ++ c ∷ []) v _ (sym len)

-- ---- the one place

no_earlier : (IsSuch : Text → Type 0) (t : Text) (p q : ℕ) → FailsAt IsSuch t p → FailsAt IsSuch t q → p < q → ⊥
no_earlier IsSuch t p q first second less = first.stuck (omega (arith, second.within)) (viable_take IsSuch (p + 1) q t (omega arith) second.viable)

-- a text goes wrong at one place at most
pub one_place : (IsSuch : Text → Type 0) (t : Text) (p q : ℕ) → FailsAt IsSuch t p → FailsAt IsSuch t q → p ≡ q
one_place IsSuch t p q first second = omega (arith, no_earlier IsSuch t p q first second, no_earlier IsSuch t q p second first)

-- ---- the one kind

-- X is true and so is P, or X is not true and Q is
abbrev Way : Type 0 → Type 0 → Type 0 → Type 0
Way X P Q = (X × P) ⊎ ((X → ⊥) × Q)

agree : {X P Q R S C : Type 0} → (P → R → C) → (Q → S → C) → Way X P Q → Way X R S → C
agree one other (inl x) (inl y) = one x.1 y.1
agree one other (inl x) (inr y) = absurd (y.0 x.0)
agree one other (inr x) (inl y) = absurd (x.0 y.0)
agree one other (inr x) (inr y) = other x.1 y.1

module _ (IsSuch : TextKind) (t : Text) (place : ℕ) where
  abbrev Told : ReadingFault → Type 0
  Told f =
      Way (place ≡ length t) (f ≡ Unended)
      (Way (IsOneTooLong IsSuch t place) (f ≡ KeyTooLong)
      (Way (MayStand IsSuch t place quote) (Way (MayStand IsSuch t place comma) (f ≡ UnbalancedBrace) (f ≡ ExpectedValue))
      (Way (MayStand IsSuch t place equals_sign) (f ≡ ExpectedEquals)
      (Way (MayStand IsSuch t place letter_x × (MayStand IsSuch t place digit_one → ⊥)) (f ≡ ExpectedName) (f ≡ ExpectedCommaOrClose)))))

  told : (f : ReadingFault) → IsFaultAt IsSuch t place f → Told f
  told Unended (fault.unended end) = inl (end, refl)
  told KeyTooLong (fault.too_long here long) = inr (λ end. omega (arith, here, end), inl (long, refl))
  told UnbalancedBrace (fault.brace here short mark comma) = inr (λ end. omega (arith, here, end), inr (short, inl (mark, inl (comma, refl))))
  told ExpectedValue (fault.value here short mark no_comma) = inr (λ end. omega (arith, here, end), inr (short, inl (mark, inr (no_comma, refl))))
  told ExpectedEquals (fault.equals here short no_mark sign) = inr (λ end. omega (arith, here, end), inr (short, inr (no_mark, inl (sign, refl))))
  told ExpectedName (fault.name here short no_mark no_sign letter no_digit) = inr (λ end. omega (arith, here, end), inr (short, inr (no_mark, inr (no_sign, inl ((letter, no_digit), refl)))))
  told ExpectedCommaOrClose (fault.comma_or_close here short no_mark no_sign too) = inr (λ end. omega (arith, here, end), inr (short, inr (no_mark, inr (no_sign, inr (λ x. x.1 (too x.0), refl)))))

  -- at a place at most one thing is wrong
  pub one_fault : (f g : ReadingFault) → IsFaultAt IsSuch t place f → IsFaultAt IsSuch t place g → f ≡ g
  one_fault f g is also = agree same (agree same (agree (agree same same) (agree same (agree same same)))) (told f is) (told g also)
    where
      same : {k : ReadingFault} → f ≡ k → g ≡ k → f ≡ g
      same a b = a ∙ sym b
