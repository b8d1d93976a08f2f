-- Steps of loops over the items of a list.
use Rattle.ris_format.proofs.Words.{◌≡◌, ◌∙◌, ℕ, ◌+◌, ◌-◌, ◌<◌, ◌≤◌, [], ◌∷◌, ◌++◌, length, take, drop, get_or, Bor, sym, ap, arith, flat_map, join_by, drop_all, take_all, Text}
use Rattle.std.proofs.Common.{List, map}
use Rattle.std.proofs.lemmas.List.{append_assoc}
use Rattle.std.proofs.Math.Numerals.{add-one}
use Rattle.std.proofs.Math.Seq.{drop-cons}

-- one that is kept
pub kept_more : {A X : Type 0} (F : List A → List X) (xs : List A) (n : ℕ) (d : A) (y : X) (out all : List X)
    → ((rest : List A) → F (get_or xs n d ∷ rest) ≡ y ∷ F rest) → n < length xs → out ++ F (drop n xs) ≡ all → (out ++ y ∷ []) ++ F (drop (n + 1) xs) ≡ all
kept_more F xs n d y out all step within told =
    ap (λ k. (out ++ y ∷ []) ++ F (drop k xs)) (add-one n)
    ∙ append_assoc out (y ∷ []) _
    ∙ ap (λ made. out ++ made) (sym (ap F (drop-cons xs n d within) ∙ step _))
    ∙ told

-- one item that gives nothing
pub passed : {A B : Type 0} (F : List A → B) (xs : List A) (n : ℕ) (d : A) (all : B)
    → ((rest : List A) → F (get_or xs n d ∷ rest) ≡ F rest) → n < length xs → F (drop n xs) ≡ all → F (drop (n + 1) xs) ≡ all
passed F xs n d all step within told = ap (λ k. F (drop k xs)) (add-one n) ∙ sym (ap F (drop-cons xs n d within) ∙ step _) ∙ told

-- one that decides
pub decided : {A B : Type 0} (F : List A → B) (xs : List A) (n : ℕ) (d : A) (all v : B)
    → ((rest : List A) → F (get_or xs n d ∷ rest) ≡ v) → n < length xs → F (drop n xs) ≡ all → v ≡ all
decided F xs n d all v step within told = sym (ap F (drop-cons xs n d within) ∙ step _) ∙ told

-- none is left
pub none_left : {A B : Type 0} (F : List A → B) (xs : List A) (n : ℕ) (all v : B) → F [] ≡ v → length xs ≤ n → F (drop n xs) ≡ all → v ≡ all
none_left F xs n all v none end told = sym (ap F (drop_all n xs end) ∙ none) ∙ told

-- the text between each two texts comes before each text except the first
pub joined_first : (between : Text) (texts : List (Bor Text)) (d : Bor Text) → 1 ≤ length texts
    → (get_or texts 0 d).now ++ flat_map (λ y. between ++ y) (map (λ (x : Bor Text). x.now) (take (length texts - 1) (drop 1 texts))) ≡ join_by (λ x. x) between (map (λ (x : Bor Text). x.now) texts)
joined_first between [] d some = absurd (omega arith)
joined_first between (text ∷ texts) d some =
    ap (λ (rest : List (Bor Text)). text.now ++ flat_map (λ y. between ++ y) (map (λ (x : Bor Text). x.now) rest)) (take_all (length (text ∷ texts) - 1) texts (omega arith))
