-- Steps of the walk over the at-signs of one text.
use Rattle.std.proofs.Common.{◌≡◌, ◌∙◌, ℕ, zero, suc, ◌+◌, ◌<◌, ◌≤◌, Bool, true, false, cond, ◌||◌, eqb, nat_le, List, [], ◌∷◌, ◌++◌, drop, length, get_or, Option, Some, None, Ok, Err, refl, sym, ap, ap₂, subst, arith, length-append}
use Rattle.std.proofs.lemmas.Bool.{cond-true, cond-false, false_from_ne_true}
use Rattle.std.proofs.lemmas.List.{drop-drop, drop_more, drop_all, length-drop}
use Rattle.memchr.specs.Find.{IsFirstByte, is_byte}
use Rattle.bib_spec.specs.Text.{Text}
use Rattle.bibtex_spec.specs.Plain.{AtSign, at_signs_in, is_misnamed, is_in_last_line, first_breach}
use Rattle.bibtex_plain.specs.Walking.{Follows, IsLastFrom, NoSignFrom, IsSignFrom, GoesOn}

-- ---- texts

pub drop_front : (k : ℕ) (t more : Text) → k ≤ length t → drop k (t ++ more) ≡ drop k t ++ more
drop_front zero t more le = refl
drop_front (suc k) [] more le = absurd (omega (arith, le))
drop_front (suc k) (b ∷ t) more le = drop_front k t more (omega (arith, le))

pub drop_past : (t more : Text) (k : ℕ) → drop (length t + k) (t ++ more) ≡ drop k more
drop_past [] more k = ap (λ (n : ℕ). drop n more) (omega arith)
drop_past (b ∷ t) more k = ap (λ (n : ℕ). drop n (b ∷ (t ++ more))) (let it : length (b ∷ t) + k ≡ suc (length t + k) = omega arith in it) ∙ drop_past t more k

-- the last line, as the text that follows sees it
pub last_past : (last at : ℕ) (t more : Text) → IsLastFrom last at (t ++ more) → IsLastFrom last (at + length t) more
last_past last at t more is k within =
    ap is_in_last_line (sym (drop_past t more k))
    ∙ is (length t + k) (let both = length-append t more in omega (arith, within, both))
    ∙ ap (nat_le last) (let it : at + (length t + k) ≡ (at + length t) + k = omega arith in it)

-- ---- the next at-sign

skip : (n : ℕ) (t : Text) (inside : Bool) (at : ℕ) (more : Text) → n ≤ length t → ((k : ℕ) → k < n → is_byte 64 (get_or t k 0) ≡ false)
    → at_signs_in inside at t more ≡ at_signs_in inside (at + n) (drop n t) more
skip zero t inside at more le none = ap (λ (a : ℕ). at_signs_in inside a t more) (let it : at ≡ at + 0 = omega arith in it)
skip (suc n) [] inside at more le none = absurd (omega (arith, le))
skip (suc n) (b ∷ t) inside at more le none =
    cond-false (eqb b 64) _ _ (none 0 (omega arith))
    ∙ skip n t inside (at + 1) more (omega (arith, le)) (λ k lt. none (suc k) (omega (arith, lt)))
    ∙ ap (λ (a : ℕ). at_signs_in inside a (drop n t) more) (let it : (at + 1) + n ≡ at + suc n = omega arith in it)

-- this at-sign of a text, and those after it
abbrev signs_at : Bool → Text → ℕ → ℕ → Text → List AtSign
signs_at inside more place next t = record { place = place; after = t ++ more; rest = t ++ more; is_inside = inside } ∷ at_signs_in inside next t more

at_sign_here : (inside : Bool) (at b : ℕ) (t more : Text) → eqb b 64 ≡ true → at_signs_in inside at (b ∷ t) more ≡ signs_at inside more at (at + 1) t
at_sign_here inside at b t more is = cond-true (eqb b 64) _ _ is

pub sign_found : (text hay : Text) (from found : ℕ) → from ≤ length text → hay ≡ drop from text → IsFirstByte (is_byte 64) hay (Some found) → IsSignFrom text from (from + found)
sign_found text hay from found le is first =
    let here = subst (λ (h : Text). IsFirstByte (is_byte 64) h (Some found)) is first in
    let lt : found < length (drop from text) = here.0.high in
    let len = length-drop from text in
    let one : drop found (drop from text) ≡ get_or (drop from text) found 0 ∷ drop (found + 1) (drop from text) = drop_more (drop from text) found 0 lt in
    let later : drop (found + 1) (drop from text) ≡ drop (from + found + 1) text = drop-drop (found + 1) from text ∙ ap (λ (n : ℕ). drop n text) (let it : from + (found + 1) ≡ from + found + 1 = omega arith in it) in
    record {
      order = omega arith;
      within = omega (arith, lt, len);
      signs = λ inside at more.
          skip found (drop from text) inside (at + from) more (omega (arith, lt)) (λ k low. false_from_ne_true _ (here.0.before k (omega arith) low))
          ∙ ap (λ (t : Text). at_signs_in inside ((at + from) + found) t more) one
          ∙ at_sign_here inside ((at + from) + found) (get_or (drop from text) found 0) (drop (found + 1) (drop from text)) more here.1
          ∙ ap (signs_at inside more ((at + from) + found) (((at + from) + found) + 1)) later
          ∙ ap₂ (λ (p n : ℕ). signs_at inside more p n (drop (from + found + 1) text)) (let it : (at + from) + found ≡ at + (from + found) = omega arith in it) (let it : ((at + from) + found) + 1 ≡ at + (from + found + 1) = omega arith in it);
    }

pub no_sign : (text hay : Text) (from : ℕ) → hay ≡ drop from text → IsFirstByte (is_byte 64) hay None → NoSignFrom text from
no_sign text hay from is first inside at more =
    let here = subst (λ (h : Text). IsFirstByte (is_byte 64) h None) is first in
    skip (length (drop from text)) (drop from text) inside (at + from) more (omega arith) (λ k low. false_from_ne_true _ (here k (omega arith) low))
    ∙ ap (λ (t : Text). at_signs_in inside ((at + from) + length (drop from text)) t more) (drop_all (length (drop from text)) (drop from text) (omega arith))

-- ---- the walk

-- what is known before byte `from` of a text, if what was read last ends in the last line or not
pub record GapWalk (text : Text) (at last : ℕ) (is_followed is_over : Bool) (from : ℕ) (over : Bool) : Type 0 where
  pub within : from ≤ length text
  pub goes : (more : Text) → Follows is_followed more → IsLastFrom last at (text ++ more) → (later : List AtSign) →
      first_breach is_over (at_signs_in false at text more ++ later) ≡ first_breach over (at_signs_in false (at + from) (drop from text) more ++ later)

pub gap_begun : (text : Text) (at last : ℕ) (is_followed is_over : Bool) → GapWalk text at last is_followed is_over 0 is_over
gap_begun text at last is_followed is_over = record {
  within = omega arith;
  goes = λ more follows lasts later. ap (λ (a : ℕ). first_breach is_over (at_signs_in false a text more ++ later)) (let it : at ≡ at + 0 = omega arith in it);
}

-- an at-sign that breaks no rule
pub passed : (over misnamed : Bool) (place : ℕ) (next : Option ℕ) → over ≡ false → misnamed ≡ false → cond (over || (false || misnamed)) (Some place) next ≡ next
passed over misnamed place next first second = cond-false (over || (false || misnamed)) (Some place) next (ap₂ (λ (a b : Bool). a || (false || b)) first second)

pub gap_more : (text : Text) (at last : ℕ) (is_followed is_over : Bool) (from : ℕ) (over : Bool) (sign : ℕ) (misnamed : Bool) → GapWalk text at last is_followed is_over from over → IsSignFrom text from sign
    → ((more : Text) → Follows is_followed more → misnamed ≡ is_misnamed (drop (sign + 1) text ++ more)) → over ≡ false → misnamed ≡ false
    → GapWalk text at last is_followed is_over (sign + 1) (nat_le last (at + (sign + 1)))
gap_more text at last is_followed is_over from over sign misnamed walk is named first second = record {
  within = let lt = is.within in omega (arith, lt);
  goes = λ more follows lasts later.
      walk.goes more follows lasts later
      ∙ ap (λ (signs : List AtSign). first_breach over (signs ++ later)) (is.signs false at more)
      ∙ passed over (is_misnamed (drop (sign + 1) text ++ more)) (at + sign) (first_breach (is_in_last_line (drop (sign + 1) text ++ more)) (at_signs_in false (at + (sign + 1)) (drop (sign + 1) text) more ++ later)) first (sym (named more follows) ∙ second)
      ∙ ap (λ (b : Bool). first_breach b (at_signs_in false (at + (sign + 1)) (drop (sign + 1) text) more ++ later))
      (ap is_in_last_line (sym (drop_front (sign + 1) text more (let lt = is.within in omega (arith, lt))))
      ∙ lasts (sign + 1) (let lt = is.within in let both = length-append text more in omega (arith, lt, both)));
}

stopped : (over misnamed : Bool) (place : ℕ) (next : Option ℕ) → (over || misnamed) ≡ true → cond (over || (false || misnamed)) (Some place) next ≡ Some place
stopped over misnamed place next is = cond-true (over || (false || misnamed)) (Some place) next is

pub gap_stop : (text : Text) (at last : ℕ) (is_followed is_over : Bool) (from : ℕ) (over : Bool) (sign : ℕ) (misnamed : Bool) → GapWalk text at last is_followed is_over from over → IsSignFrom text from sign
    → ((more : Text) → Follows is_followed more → misnamed ≡ is_misnamed (drop (sign + 1) text ++ more)) → (over || misnamed) ≡ true
    → (more : Text) → Follows is_followed more → IsLastFrom last at (text ++ more) → GoesOn is_over (at_signs_in false at text more) (Err (at + sign))
gap_stop text at last is_followed is_over from over sign misnamed walk is named breaks more follows lasts later =
    walk.goes more follows lasts later
    ∙ ap (λ (signs : List AtSign). first_breach over (signs ++ later)) (is.signs false at more)
    ∙ stopped over (is_misnamed (drop (sign + 1) text ++ more)) (at + sign) (first_breach (is_in_last_line (drop (sign + 1) text ++ more)) (at_signs_in false (at + (sign + 1)) (drop (sign + 1) text) more ++ later))
    (ap (λ (b : Bool). over || b) (sym (named more follows)) ∙ breaks)

pub gap_end : (text : Text) (at last : ℕ) (is_followed is_over : Bool) (from : ℕ) (over : Bool) → GapWalk text at last is_followed is_over from over → NoSignFrom text from
    → (more : Text) → Follows is_followed more → IsLastFrom last at (text ++ more) → GoesOn is_over (at_signs_in false at text more) (Ok over)
gap_end text at last is_followed is_over from over walk none more follows lasts later =
    walk.goes more follows lasts later ∙ ap (λ (signs : List AtSign). first_breach over (signs ++ later)) (none false at more)
