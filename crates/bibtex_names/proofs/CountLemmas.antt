-- A count of characters.
use Rattle.bib_names.proofs.Words.{◌≡◌, ℕ, zero, suc, ◌-◌, ◌<◌, Bool, eqb, [], ◌∷◌, length, take, drop, refl, ap, ◌∙◌, arith, ltb, Text}
use Rattle.std.proofs.Common.{◌⊎◌, inl, inr}
use Rattle.std.proofs.lemmas.Bool.{ne_eqb}
use Rattle.bibtex_names.specs.Counting.{char_len, depth_after, counted}
use Rattle.bibtex_names.specs.declared.counting.Count.{Count}

-- one more character
pub counted_more : (wanted depth len : ℕ) (text : Text) → 0 < wanted → 0 < length text → len ≡ char_len depth text
    → counted (wanted - 1) (depth_after depth (take len text)) (drop len text) ≡ counted wanted depth text
counted_more zero depth len text some more is = absurd (omega arith)
counted_more (suc wanted) depth len [] some more is = absurd (omega arith)
counted_more (suc wanted) depth len (byte ∷ rest) some more is =
    let one : suc wanted - 1 ≡ wanted = omega arith in
    ap (λ (n : ℕ). counted n (depth_after depth (take len (byte ∷ rest))) (drop len (byte ∷ rest))) one
    ∙ ap (λ (n : ℕ). counted wanted (depth_after depth (take n (byte ∷ rest))) (drop n (byte ∷ rest))) is

-- no character is wanted, or none is left
pub counted_end : (wanted depth : ℕ) (text : Text) → (wanted ≡ 0) ⊎ (length text ≡ 0) → record { is_enough = eqb wanted 0; is_open = ltb 0 depth } ≡ counted wanted depth text
counted_end zero depth text end = refl
counted_end (suc wanted) depth [] end =
    let made : Bool → Count = λ b. record { is_enough = b; is_open = ltb 0 depth } in
    ap made (ne_eqb (suc wanted) 0 (λ e. omega (arith, e)))
counted_end (suc wanted) depth (byte ∷ rest) (inl e) = absurd (omega (arith, e))
counted_end (suc wanted) depth (byte ∷ rest) (inr e) = absurd (omega (arith, e))
