-- The letters of numbers, and labels one after another.
use Rattle.bib_names.proofs.Words.{◌≡◌, ℕ, zero, suc, ◌+◌, ◌-◌, ◌<◌, Bool, true, false, cond, List, [], ◌∷◌, ◌++◌, length, take, get_or, map, refl, sym, ap, ◌∙◌, arith, lit<, bytes_eq, range_with_len, count_by_more_yes, count_by_more_no, Text, letters, count_of, label_at}
use Rattle.std.proofs.Common.{◌*◌, ◌/◌, ◌%◌, append_assoc}
use Rattle.std.proofs.Math.Nat.{div-add-mod, mod-lt}
use Rattle.std.proofs.lemmas.Bool.{ne_eqb}
use Rattle.std.proofs.lemmas.List.{get_or_default}
use Rattle.std.proofs.lemmas.List.FromFn.{map-range_with_len_more}
use Rattle.bib_spec.specs.MadeKeys.{next_letters}
use Rattle.bib_names.specs.Label.{label_of}

-- ---- letters

-- the letter that goes up
up : (letter : ℕ) (more : Text) → letter < 122 → next_letters (letter ∷ more) ≡ (letter + 1) ∷ more
up letter more low = ap (λ b. cond b (97 ∷ next_letters more) ((letter + 1) ∷ more)) (ne_eqb letter 122 (λ e. omega arith))

-- the letters of a number, the last one first: one for its rest by 26, then the letters of its quotient
letters_at : (q r : ℕ) → r < 26 → letters (26 * q + r + 1) ≡ (97 + r) ∷ letters q
letters_at zero zero lt = refl
letters_at (suc q) zero lt =
    let n : 26 * suc q + 0 + 1 ≡ suc (26 * q + 25 + 1) = omega arith in
    ap letters n ∙ ap next_letters (letters_at q 25 (omega arith))
letters_at q (suc r) lt =
    let n : 26 * q + suc r + 1 ≡ suc (26 * q + r + 1) = omega arith in
    let l : 97 + r + 1 ≡ 97 + suc r = omega arith in
    ap letters n ∙ ap next_letters (letters_at q r (omega arith)) ∙ up (97 + r) (letters q) (omega arith) ∙ ap (λ x. x ∷ letters q) l

pub letters_more : (told : Text) (rest : ℕ) → 0 < rest → (told ++ (97 + (rest - 1) % 26) ∷ []) ++ letters ((rest - 1) / 26) ≡ told ++ letters rest
letters_more told rest some =
    let q = (rest - 1) / 26 in
    let r = (rest - 1) % 26 in
    let split = div-add-mod (rest - 1) 26 in
    let n : 26 * q + r + 1 ≡ rest = omega (arith, split) in
    append_assoc told ((97 + r) ∷ []) (letters q) ∙ ap (λ l. told ++ l) (sym (letters_at q r (mod-lt (rest - 1) (lit< tt))) ∙ ap letters n)

-- ---- counts and labels so far

-- one more base
pub count_of_more : (base : Text) (bases : List Text) (n : ℕ) (next : Text) → n < length bases → next ≡ get_or bases n next → count_of base (take (n + 1) bases) ≡ count_of base (take n bases) + cond (bytes_eq base next) 1 0
count_of_more base bases n next lt is = go (bytes_eq base next) refl
  where
    go : (b : Bool) → bytes_eq base next ≡ b → count_of base (take (n + 1) bases) ≡ count_of base (take n bases) + cond b 1 0
    go true e = count_by_more_yes (bytes_eq base) bases n next lt (ap (bytes_eq base) (sym is) ∙ e)
    go false e = omega (arith, count_by_more_no (bytes_eq base) bases n next lt (ap (bytes_eq base) (sym is) ∙ e))

-- one more label
pub labels_more : (bases labels : List Text) (n : ℕ) (base label : Text) (count earlier : ℕ) → n < length bases → base ≡ get_or bases n base → count ≡ count_of base bases → earlier ≡ count_of base (take n bases) → label ≡ label_of base count earlier
    → labels ≡ map (label_at bases) (range_with_len 0 n) → labels ++ label ∷ [] ≡ map (label_at bases) (range_with_len 0 (n + 1))
labels_more bases labels n base label count earlier lt is count_is earlier_is label_is told =
    let here : base ≡ get_or bases n [] = is ∙ get_or_default bases n base [] lt in
    let whole : label ≡ label_at bases n = label_is ∙ ap (λ k. label_of base k earlier) count_is ∙ ap (label_of base (count_of base bases)) earlier_is ∙ ap (λ b. label_of b (count_of b bases) (count_of b (take n bases))) here in
    ap (λ ls. ls ++ label ∷ []) told ∙ ap (λ l. map (label_at bases) (range_with_len 0 n) ++ l ∷ []) whole ∙ sym (map-range_with_len_more (label_at bases) 0 n n (omega arith))
