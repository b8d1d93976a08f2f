-- Which texts are plain already.
use Rattle.std.proofs.Common.{◌≡◌, ◌∙◌, ℕ, ◌-◌, Bool, true, false, ◌||◌, ◌==◌, [], ◌∷◌, ◌++◌, take, None, refl, ap, true≢false}
use Rattle.std.proofs.lemmas.Bool.{cond-false}
use Rattle.std.specs.List.{list_any}
use Rattle.bib_spec.specs.Text.{Text}
use Rattle.bib_text.specs.Trimming.{trimmed}
use Rattle.plain_text.specs.Signs.{sign_at}
use Rattle.plain_text.specs.Plain.{Step, step, word_step, step_at, printed_from, printed, is_mark, BareTextsArePlain}

-- neither of two
neither : (a b : Bool) → (a || b) ≡ false → (a ≡ false) × (b ≡ false)
neither false false is = (refl, refl)
neither false true is = absurd (true≢false is)
neither true b is = absurd (true≢false is)

-- none of the four bytes
pub record IsBare (byte : ℕ) : Type 0 where
  pub no_command : (byte == 92) ≡ false
  pub no_tie : (byte == 126) ≡ false
  pub no_open : (byte == 123) ≡ false
  pub no_close : (byte == 125) ≡ false

-- such a byte is no sign
no_sign : (byte : ℕ) (t : Text) → IsBare byte → sign_at (byte ∷ t) ≡ None
no_sign byte t bare =
    cond-false (byte == 126) _ _ bare.no_tie
    ∙ cond-false (byte == 92) _ _ bare.no_command

-- such a byte is read as it is
bare_step : (byte : ℕ) (t : Text) → IsBare byte → step_at false 0 (byte ∷ t) ≡ step (byte ∷ []) 1 false 0
bare_step byte t bare =
    cond-false (byte == 123) _ _ bare.no_open
    ∙ cond-false (byte == 125) _ _ bare.no_close
    ∙ ap (word_step 0 (byte ∷ t)) (no_sign byte t bare)
    ∙ ap (λ n. step (take n (byte ∷ t)) n (byte == 92) 0) (cond-false (byte == 92) _ _ bare.no_command)
    ∙ ap (λ stays. step (byte ∷ []) 1 stays 0) bare.no_command

-- such a byte is printed as it is
pub bare_printed : (byte : ℕ) (t : Text) → IsBare byte → printed_from 0 false 0 (byte ∷ t) ≡ byte ∷ printed_from 0 false 0 t
bare_printed byte t bare = ap (λ (s : Step). s.written ++ printed_from (s.next.taken - 1) s.next.stays s.next.depth t) (bare_step byte t bare)

-- a byte that is no mark
bare_of : (byte : ℕ) → is_mark byte ≡ false → IsBare byte
bare_of byte is =
    let last = neither _ (byte == 125) is in
    let third = neither _ (byte == 123) last.0 in
    let first = neither (byte == 92) (byte == 126) third.0 in
    record { no_command = first.0; no_tie = first.1; no_open = third.1; no_close = last.1 }

bare_text : (text : Text) → list_any is_mark text ≡ false → printed text ≡ text
bare_text [] is = refl
bare_text (byte ∷ t) is =
    let parts = neither (is_mark byte) (list_any is_mark t) is in
    bare_printed byte t (bare_of byte parts.0) ∙ ap (λ (u : Text). byte ∷ u) (bare_text t parts.1)

pub bare_texts_are_plain : BareTextsArePlain
bare_texts_are_plain text is = ap trimmed (bare_text text is)
