-- What is shown of the front of a text.
use Rattle.std.proofs.Common.{◌≡◌, ℕ, zero, suc, ◌+◌, ◌-◌, ◌≤◌, ◌<◌, Bool, true, false, List, [], ◌∷◌, ◌++◌, length, take, drop, get_or, Option, Result, Ok, Err, ⊎_elim, refl, sym, ap, ◌∙◌, subst, arith}
use Rattle.std.specs.Prelude.{◌||◌, ◌==◌}
use Rattle.std.proofs.Common.{cond, count_by}
use Rattle.std.proofs.lemmas.List.Sums.{sum_by-cons}
use Rattle.std.proofs.lemmas.Bool.{true≢false}
use Rattle.std.proofs.Math.Nat.{eq-or-lt_of_le}
use Rattle.std.proofs.lemmas.List.{take_more, drop_more, append_assoc, take-take, length-take-le, length-drop}
use Rattle.std.specs.Io.{WritesAtMost}
use Rattle.std.specs.Io.KnownBytes.{Appends, WriteAppends}
use Rattle.bib_streams.specs.Shown.{is_control, are_control, shown, begins_with_control, may_begin, IsPlainRun, IsPlainFront, WritesShown}

neither-left : (x y : Bool) → (x || y) ≡ false → x ≡ false
neither-left false y e = refl
neither-left true y e = absurd (true≢false e)

neither-right : (x y : Bool) → (x || y) ≡ false → y ≡ false
neither-right false y e = e
neither-right true y e = absurd (true≢false e)

-- a byte that begins no control character is shown as it is
pub shown-plain : (b : ℕ) (rest : List ℕ) → begins_with_control (b ∷ rest) ≡ false → shown (b ∷ rest) ≡ b ∷ shown rest
shown-plain b [] plain = rw plain refl
shown-plain b (c ∷ rest) plain = rw (neither-left (are_control b c) (is_control b) plain, neither-right (are_control b c) (is_control b) plain) refl

-- no byte is shown as it is, if none is asked about
pub plain-none : (text : List ℕ) → IsPlainFront text 0
plain-none text = record {
  within = omega arith;
  plain = λ m small. let none : m ≡ 0 = omega (arith, small) in subst (λ k. shown text ≡ take k text ++ shown (drop k text)) (sym none) refl;
}

-- one more byte is shown as it is
pub plain-more : (text : List ℕ) (n : ℕ) → IsPlainFront text n → n < length text → begins_with_control (drop n text) ≡ false → IsPlainFront text (n + 1)
plain-more text n front inside plain = record {
  within = omega (arith, inside);
  plain = λ m small. ⊎_elim (λ same. subst (λ k. shown text ≡ take k text ++ shown (drop k text)) (sym same) next) (λ less. front.plain m (omega (arith, less))) (eq-or-lt_of_le small);
}
  where
    byte : ℕ
    byte = get_or text n 0

    rest : List ℕ
    rest = drop (n + 1) text

    cut : drop n text ≡ byte ∷ rest
    cut = drop_more text n 0 inside

    shows : shown (drop n text) ≡ byte ∷ shown rest
    shows = ap shown cut ∙ shown-plain byte rest (subst (λ t. begins_with_control t ≡ false) cut plain)

    next : shown text ≡ take (n + 1) text ++ shown rest
    next = front.plain n (omega arith) ∙ ap (λ t. take n text ++ t) shows ∙ sym (append_assoc (take n text) (byte ∷ []) (shown rest)) ∙ ap (λ t. t ++ shown rest) (sym (take_more text n 0 inside))

-- no control character begins with such a byte
none_begins : (b : ℕ) (rest : List ℕ) → may_begin b ≡ false → begins_with_control (b ∷ rest) ≡ false
none_begins b [] none = neither-left (is_control b) (b == 194) none
none_begins b (c ∷ rest) none = rw (neither-right (is_control b) (b == 194) none, neither-left (is_control b) (b == 194) none) refl

none_of : (is : Bool) (n : ℕ) → cond {A = ℕ} is 1 0 + n ≡ 0 → is ≡ false
none_of true n none = absurd (omega (arith, none))
none_of false n none = refl

-- a run of more bytes of which none begins a control character
run_more : (text : List ℕ) (n k : ℕ) → IsPlainFront text n → n + k ≤ length text → count_by may_begin (take k (drop n text)) ≡ 0 → IsPlainFront text (n + k)
run_more text n zero front within none = subst (IsPlainFront text) (let e : n ≡ n + 0 = omega arith in e) front
run_more text n (suc k) front within none =
    let byte : ℕ = get_or text n 0 in
    let cut : drop n text ≡ byte ∷ drop (n + 1) text = drop_more text n 0 (omega (arith, within)) in
    let counted : cond {A = ℕ} (may_begin byte) 1 0 + count_by may_begin (take k (drop (n + 1) text)) ≡ 0 =
    sym (sum_by-cons (λ b. cond {A = ℕ} (may_begin b) 1 0) byte (take k (drop (n + 1) text))) ∙ sym (ap (λ t. count_by may_begin (take (suc k) t)) cut) ∙ none in
    let next : IsPlainFront text (n + 1) =
    plain-more text n front (omega (arith, within)) (ap begins_with_control cut ∙ none_begins byte (drop (n + 1) text) (none_of (may_begin byte) _ counted)) in
    subst (IsPlainFront text) (let e : n + 1 + k ≡ n + suc k = omega arith in e) (run_more text (n + 1) k next (omega (arith, within)) (omega (arith, counted)))

pub plain-run : (text : List ℕ) (n k : ℕ) → n ≤ length text → IsPlainFront text n → IsPlainRun (drop n text) k → IsPlainFront text (n + k)
plain-run text n k inside front run =
    let left = length-drop n text in let small = run.within in run_more text n k front (omega (arith, inside, left, small)) run.none

-- a write of a front that is shown as it is
pub front-write : {E : Type 0} (old new : Option (List ℕ)) (text front : List ℕ) (n : ℕ) (r : Result ℕ E) → IsPlainFront text n → front ≡ take n text
    → WritesAtMost r front → WriteAppends old new r front → WritesShown old new text r
front-write old new text front n (Ok k) plain is most given =
    let small : k ≤ n = omega (arith, most, ap length is, length-take-le n text plain.within) in
    record {
      out = take k text;
      given = subst (Appends old new) (ap (take k) is ∙ take-take k n text small) given;
      is = plain.plain k small;
    }
front-write old new text front n (Err e) plain is most given = tt
