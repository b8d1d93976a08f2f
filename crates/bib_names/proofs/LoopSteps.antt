-- Steps of loops that put what is made of each item of a list after the others.
use Rattle.bib_names.proofs.Words.{◌≡◌, ◌∙◌, ℕ, ◌+◌, ◌<◌, ◌≤◌, List, [], ◌∷◌, ◌++◌, length, drop, get_or, refl, sym, ap, drop_all}
use Rattle.std.proofs.lemmas.List.{append_assoc}
use Rattle.std.proofs.Math.Numerals.{add-one}
use Rattle.std.proofs.Math.Seq.{drop-cons}

-- one more
pub made_more : {A X : Type 0} (F : List A → List X) (made : A → List X) (xs : List A) (n : ℕ) (d : A) (out all : List X)
    → ((x : A) (rest : List A) → F (x ∷ rest) ≡ made x ++ F rest) → n < length xs → out ++ F (drop n xs) ≡ all → (out ++ made (get_or xs n d)) ++ F (drop (n + 1) xs) ≡ all
made_more F made xs n d out all step within told =
    ap (λ k. (out ++ made (get_or xs n d)) ++ F (drop k xs)) (add-one n)
    ∙ append_assoc out (made (get_or xs n d)) _
    ∙ ap (λ made_on. out ++ made_on) (sym (ap F (drop-cons xs n d within) ∙ step (get_or xs n d) _))
    ∙ told

nothing-after : {X : Type 0} (out : List X) → out ≡ out ++ []
nothing-after [] = refl
nothing-after (x ∷ out) = ap (λ xs. x ∷ xs) (nothing-after out)

-- all
pub made_all : {A X : Type 0} (F : List A → List X) (xs : List A) (n : ℕ) (out all : List X) → F [] ≡ [] → length xs ≤ n → out ++ F (drop n xs) ≡ all → out ≡ all
made_all F xs n out all none end told = nothing-after out ∙ ap (λ made. out ++ made) (sym (ap F (drop_all n xs end) ∙ none)) ∙ told
