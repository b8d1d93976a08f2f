-- Steps of the search for the next command.
use Rattle.bib_scan.proofs.Words.{◌≡◌, ℕ, zero, suc, ◌+◌, ◌<◌, ◌≤◌, true, false, eqb, [], ◌∷◌, length, get_or, drop, refl, sym, ap, subst, ◌∙◌, arith, None, Some, drop-drop, drop_more, drop_all, length-drop, false_from_ne_true, and_left, IsFirstByte, is_byte, Text, begins_command, next_command}

-- no command begins before `at`
pub record NoneUpTo (t : Text) (at : ℕ) : Type 0 where
  pub within : at ≤ length t
  pub read : next_command t ≡ at + next_command (drop at t)

begins_plain : (b : ℕ) (t : Text) → eqb b 64 ≡ false → begins_command (b ∷ t) ≡ false
unfolding begins_command
begins_plain b t plain = and_left _ _ (and_left _ _ plain)

pub next_none : (b : ℕ) (t : Text) → begins_command (b ∷ t) ≡ false → next_command (b ∷ t) ≡ next_command t + 1
unfolding next_command
next_none b t none = rw none refl

pub next_here : (t : Text) → begins_command t ≡ true → next_command t ≡ 0
unfolding next_command
next_here [] here = refl
next_here (b ∷ t) here = rw here refl

next_run : (n : ℕ) (t : Text) → n ≤ length t → ((k : ℕ) → k < n → is_byte 64 (get_or t k 0) ≡ false) → next_command t ≡ n + next_command (drop n t)
next_run zero t le none = omega arith
next_run (suc n) [] le none = absurd (omega arith)
next_run (suc n) (b ∷ t) le none =
    let head = next_none b t (begins_plain b t (none 0 (omega arith))) in
    let later = next_run n t (omega arith) (λ k lt. none (suc k) (omega arith)) in
    omega arith

pub next_found : (t hay : Text) (at found : ℕ) → NoneUpTo t at → hay ≡ drop at t → IsFirstByte (is_byte 64) hay (Some found) → NoneUpTo t (at + found) × (at + found < length t)
next_found t hay at found up is first =
    let here = subst (λ (h : Text). IsFirstByte (is_byte 64) h (Some found)) is first in
    let lt : found < length (drop at t) = here.0.high in
    let run = next_run found (drop at t) (omega arith) (λ k low. false_from_ne_true _ (here.0.before k (omega arith) low)) in
    let same : drop found (drop at t) ≡ drop (at + found) t = drop-drop found at t in
    let within : at + found < length t = omega (arith, length-drop at t) in
    (record { within = omega arith; read = up.read ∙ ap (λ (n : ℕ). at + n) (run ∙ ap (λ (u : Text). found + next_command u) same) ∙ omega arith }, within)

pub next_past : (t hay : Text) (place : ℕ) → NoneUpTo t place → place < length t → hay ≡ drop place t → false ≡ begins_command hay → NoneUpTo t (place + 1)
next_past t hay place up lt is none =
    let split = drop_more t place 0 lt in
    let head = next_none (get_or t place 0) (drop (place + 1) t) (ap begins_command (sym split ∙ sym is) ∙ sym none) in
    record { within = omega arith; read = up.read ∙ ap (λ (u : Text). place + next_command u) split ∙ ap (λ (n : ℕ). place + n) head ∙ omega arith }

pub next_is : (t hay : Text) (place : ℕ) → NoneUpTo t place → hay ≡ drop place t → true ≡ begins_command hay → place ≡ next_command t
next_is t hay place up is here =
    let zero_here = next_here (drop place t) (ap begins_command (sym is) ∙ sym here) in
    omega (arith, up.read)

pub next_end : (t hay : Text) (at : ℕ) → NoneUpTo t at → hay ≡ drop at t → IsFirstByte (is_byte 64) hay None → length t ≡ next_command t
unfolding next_command
next_end t hay at up is first =
    let here = subst (λ (u : Text). IsFirstByte (is_byte 64) u None) is first in
    let run = next_run (length (drop at t)) (drop at t) (omega arith) (λ k low. false_from_ne_true _ (here k (omega arith) low)) in
    let gone : drop (length (drop at t)) (drop at t) ≡ [] = drop_all _ (drop at t) (omega arith) in
    let none : next_command (drop (length (drop at t)) (drop at t)) ≡ 0 = ap next_command gone in
    omega (arith, up.read, length-drop at t, up.within)
