-- Runs of bytes that purifying leaves as they are.
use Rattle.std.proofs.Common.{◌≡◌, ◌≢◌, ◌∙◌, ⊎_elim, ℕ, suc, ◌+◌, Bool, true, false, [], ◌∷◌, ◌++◌, take, drop, cond, refl, sym, ap, subst, arith, append_assoc}
use Rattle.std.specs.Prelude.{◌==◌}
use Rattle.std.specs.List.{flat_map, prefix_len}
use Rattle.std.proofs.lemmas.Bool.{true≢false, or_cases, eqb-true, ne_eqb, cond-true, cond-false}
use Rattle.bib_spec.specs.Bytes.{space}
use Rattle.bib_spec.specs.Text.{Text, is_space}
use Rattle.bibtex_labels.specs.Purified.{is_alphanumeric, is_separator, purified_byte, stays}

-- a letter or a digit separates no words
letter_joins : (byte : ℕ) → is_alphanumeric byte ≡ true → is_separator byte ≡ false
unfolding is_space
letter_joins byte letter =
    let apart : (sign : ℕ) → is_alphanumeric sign ≡ false → byte ≢ sign = λ sign none is. true≢false (sym letter ∙ ap is_alphanumeric is ∙ none) in
    rw (ne_eqb byte 32 (apart 32 refl), ne_eqb byte 9 (apart 9 refl), ne_eqb byte 10 (apart 10 refl), ne_eqb byte 13 (apart 13 refl), ne_eqb byte 126 (apart 126 refl), ne_eqb byte 45 (apart 45 refl)) refl

-- a byte that stays is left
byte_stays : (byte : ℕ) → stays byte ≡ true → purified_byte byte ≡ byte ∷ []
unfolding is_space
byte_stays byte is =
    ⊎_elim (λ letter. cond-false (is_separator byte) _ _ (letter_joins byte letter) ∙ cond-true (is_alphanumeric byte) _ _ letter)
    (λ blank. subst (λ (b : ℕ). purified_byte b ≡ b ∷ []) (sym (eqb-true byte space blank)) refl)
    (or_cases (is_alphanumeric byte) (byte == space) is)

-- a run at the front stays as it is
run_stays : (n : ℕ) (text : Text) → n ≡ prefix_len stays text → take n text ++ flat_map purified_byte (drop n text) ≡ flat_map purified_byte text
run_stays n text is = ap (λ (k : ℕ). take k text ++ flat_map purified_byte (drop k text)) is ∙ by text
  where
    by : (text : Text) → take (prefix_len stays text) text ++ flat_map purified_byte (drop (prefix_len stays text) text) ≡ flat_map purified_byte text
    by [] = refl
    by (byte ∷ text) = at (by text) (stays byte) refl
      where
        run : ℕ
        run = prefix_len stays text

        at : take run text ++ flat_map purified_byte (drop run text) ≡ flat_map purified_byte text → (b : Bool) → stays byte ≡ b
            → take (cond b (1 + run) 0) (byte ∷ text) ++ flat_map purified_byte (drop (cond b (1 + run) 0) (byte ∷ text)) ≡ purified_byte byte ++ flat_map purified_byte text
        at later true here =
            let one : 1 + run ≡ suc run = omega arith in
            ap (λ (k : ℕ). take k (byte ∷ text) ++ flat_map purified_byte (drop k (byte ∷ text))) one
            ∙ ap (λ (t : Text). byte ∷ t) later
            ∙ ap (λ (t : Text). t ++ flat_map purified_byte text) (sym (byte_stays byte here))
        at later false here = refl

-- one more run
pub run_last : (n : ℕ) (text out : Text) → n ≡ prefix_len stays text → (out ++ take n text) ++ flat_map purified_byte (drop n text) ≡ out ++ flat_map purified_byte text
run_last n text out is = append_assoc out (take n text) (flat_map purified_byte (drop n text)) ∙ ap (λ (t : Text). out ++ t) (run_stays n text is)

-- one more run, and the byte after it
pub run_more : (n byte : ℕ) (text rest out : Text) → n ≡ prefix_len stays text → drop n text ≡ byte ∷ rest
    → ((out ++ take n text) ++ purified_byte byte) ++ flat_map purified_byte rest ≡ out ++ flat_map purified_byte text
run_more n byte text rest out is next =
    append_assoc (out ++ take n text) (purified_byte byte) (flat_map purified_byte rest)
    ∙ ap (λ (t : Text). (out ++ take n text) ++ flat_map purified_byte t) (sym next)
    ∙ run_last n text out is
