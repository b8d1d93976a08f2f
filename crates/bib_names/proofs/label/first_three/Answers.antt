use Rattle.bib_names.proofs.Words.{◌≡◌, ℕ, zero, suc, ◌+◌, ◌-◌, ◌<◌, ◌≤◌, ◌++◌, [], ◌∷◌, List, take, refl, sym, ◌∙◌, ap, arith, append-nil, flat_map, Text}
use Rattle.std.proofs.Common.{append_assoc, add-one}
use Rattle.bib_names.proofs.label.first_three.Goals as goal

-- these characters joined
abbrev all_of : List Text → Text
all_of chars = flat_map (λ (char : Text). char) chars

first_more : (out : Text) (chars rest : List Text) (char : Text) (n : ℕ) → n < 3 → chars ≡ char ∷ rest → (out ++ char) ++ all_of (take (3 - (n + 1)) rest) ≡ out ++ all_of (take (3 - n) chars)
first_more out chars rest char n lt is =
    let one : 3 - n ≡ 3 - (n + 1) + 1 = omega arith in
    append_assoc out char (all_of (take (3 - (n + 1)) rest)) ∙ sym (ap (λ m. out ++ all_of (take m (char ∷ rest))) (one ∙ add-one (3 - (n + 1)))) ∙ ap (λ cs. out ++ all_of (take (3 - n) cs)) (sym is)

first_all : (out : Text) (chars : List Text) (n : ℕ) → 3 ≤ n → out ≡ out ++ all_of (take (3 - n) chars)
first_all out chars n le = let none : 3 - n ≡ 0 = omega arith in sym (append-nil out) ∙ ap (λ m. out ++ all_of (take m chars)) (sym none)

take-nil : (n : ℕ) → take {A = Text} n [] ≡ []
take-nil zero = refl
take-nil (suc n) = refl

first_few : (out : Text) (chars : List Text) (n : ℕ) → chars ≡ [] → out ≡ out ++ all_of (take (3 - n) chars)
first_few out chars n none = sym (append-nil out) ∙ ap (λ cs. out ++ all_of cs) (sym (take-nil (3 - n))) ∙ ap (λ cs. out ++ all_of (take (3 - n) cs)) (sym none)

pub loop-preserved : goal.loop-preserved
loop-preserved c =
    rw c.in_ok-extend_from_slice.ensures.items
    (first_more c.loop.out.items c.loop.chars c.in-Some.rest c.in-Some.character.now c.loop.counter c.loop-test.true c.in-Some.ensures.some ∙ c.loop.invariant)

pub returns-in_default : goal.returns-in_default
returns-in_default c = c.from_vec.ensures ∙ first_few c.loop.out.items c.loop.chars c.loop.counter c.in_default.ensures.none ∙ c.loop.invariant

pub returns : goal.returns
returns c = c.from_vec-2.ensures ∙ first_all c.loop.out.items c.loop.chars c.loop.counter c.loop-test.false ∙ c.loop.invariant
