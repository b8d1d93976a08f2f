-- A text is clean if and only if the search for a command reaches its end.
use Rattle.bib_scan.proofs.Words.{◌≡◌, zero, suc, [], ◌∷◌, length, refl, ap, arith, inl, inr, drop_all, cases_Bool, Text, begins_command, IsClean, next_command}
use Rattle.bib_scan.proofs.CommandLemmas.{next_none, next_here}

pub clean_len : (t : Text) → IsClean t → next_command t ≡ length t
unfolding next_command
clean_len [] clean = refl
clean_len (b ∷ t) clean =
    let later = clean_len t (λ p. clean (suc p)) in
    omega (arith, next_none b t (clean 0))

pub len_clean : (t : Text) → next_command t ≡ length t → IsClean t
unfolding begins_command
len_clean [] is p = ap begins_command (drop_all p [] (omega arith))
len_clean (b ∷ t) is zero =
    elim (cases_Bool (begins_command (b ∷ t))) [
      | inl here ↦ absurd (omega (arith, next_here (b ∷ t) here))
      | inr none ↦ none
    ]
len_clean (b ∷ t) is (suc p) =
    elim (cases_Bool (begins_command (b ∷ t))) [
      | inl here ↦ absurd (omega (arith, next_here (b ∷ t) here))
      | inr none ↦ len_clean t (omega (arith, next_none b t none)) p
    ]
