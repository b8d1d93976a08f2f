-- What is printed of a text, step by step.
use Rattle.std.proofs.Common.{◌≡◌, ℕ, zero, suc, ◌+◌, ◌-◌, ◌≤◌, Bool, false, [], ◌∷◌, ◌++◌, length, drop, refl, sym, ap, ◌∙◌, arith, append_assoc, append-nil}
use Rattle.std.proofs.lemmas.List.{length-drop}
use Rattle.bib_spec.specs.Text.{Text}
use Rattle.plain_text.specs.declared.printing.Next.{Next}
use Rattle.plain_text.specs.Plain.{Step, step_at, printed_from, printed}

-- bytes that were taken are passed over
pub passed : (taken : ℕ) (stays : Bool) (depth : ℕ) (text : Text) → printed_from taken stays depth text ≡ printed_from 0 stays depth (drop taken text)
passed zero stays depth text = refl
passed (suc taken) stays depth [] = refl
passed (suc taken) stays depth (b ∷ t) = passed taken stays depth t

-- what was printed, and what is printed of the rest, are what is printed of the whole text
pub record IsPrinted (text out rest : Text) (stays : Bool) (depth : ℕ) : Type 0 where
  pub same : out ++ printed_from 0 stays depth rest ≡ printed text
  pub small : depth + length rest ≤ length text

-- a text that is not empty, from its first step on
stepped : (stays : Bool) (depth : ℕ) (text : Text) → 1 ≤ length text → 1 ≤ (step_at stays depth text).next.taken
    → printed_from 0 stays depth text
    ≡ (step_at stays depth text).written ++ printed_from 0 (step_at stays depth text).next.stays (step_at stays depth text).next.depth (drop (step_at stays depth text).next.taken text)
stepped stays depth [] some takes = absurd (omega (arith, some))
stepped stays depth (b ∷ t) some takes = ap (λ (u : Text). s.written ++ u) (passed (s.next.taken - 1) s.next.stays s.next.depth t ∙ same)
  where
    s : Step
    s = step_at stays depth (b ∷ t)

    dropped : (n : ℕ) → 1 ≤ n → drop (n - 1) t ≡ drop n (b ∷ t)
    dropped zero one = absurd (omega (arith, one))
    dropped (suc n) one = ap (λ k. drop k t) (omega arith)

    same : printed_from 0 s.next.stays s.next.depth (drop (s.next.taken - 1) t) ≡ printed_from 0 s.next.stays s.next.depth (drop s.next.taken (b ∷ t))
    same = ap (printed_from 0 s.next.stays s.next.depth) (dropped s.next.taken takes)

-- at the beginning
pub IsPrinted-none : (text out : Text) → out ≡ [] → IsPrinted text out text false 0
IsPrinted-none text out none = record { same = ap (λ (u : Text). u ++ printed text) none; small = omega arith }

-- one step more
pub IsPrinted-more : (text out out' rest rest' : Text) (stays : Bool) (depth : ℕ) (n : Next) → IsPrinted text out rest stays depth → 1 ≤ length rest
    → out' ≡ out ++ (step_at stays depth rest).written → n ≡ (step_at stays depth rest).next → rest' ≡ drop n.taken rest
    → 1 ≤ n.taken → n.taken ≤ length rest → n.depth ≤ depth + 1 → IsPrinted text out' rest' n.stays n.depth
IsPrinted-more text out out' rest rest' stays depth n is some more next after takes within deeper = record {
  same =
      ap (λ (u : Text). u ++ printed_from 0 n.stays n.depth rest') more
      ∙ append_assoc out (step_at stays depth rest).written (printed_from 0 n.stays n.depth rest')
      ∙ ap (λ (u : Text). out ++ ((step_at stays depth rest).written ++ printed_from 0 n.stays n.depth u)) after
      ∙ ap (λ (m : Next). out ++ ((step_at stays depth rest).written ++ printed_from 0 m.stays m.depth (drop m.taken rest))) next
      ∙ ap (λ (u : Text). out ++ u) (sym (stepped stays depth rest some (omega (arith, takes, ap (λ (m : Next). m.taken) next))))
      ∙ is.same;
  small = omega (arith, is.small, takes, within, deeper, ap length after, length-drop n.taken rest);
}

-- at the end
pub IsPrinted-all : (text out rest : Text) (stays : Bool) (depth : ℕ) → IsPrinted text out rest stays depth → rest ≡ [] → out ≡ printed text
IsPrinted-all text out rest stays depth is none = sym (append-nil out) ∙ ap (λ (u : Text). out ++ printed_from 0 stays depth u) (sym none) ∙ is.same
