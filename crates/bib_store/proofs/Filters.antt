-- What is kept by one test after another.
use Rattle.bib_store.proofs.Words.{◌≡◌, Bool, true, false, cond, ◌&&◌, List, [], ◌∷◌, refl, sym, ◌∙◌, ap, filter}

-- kept by q and then by p is kept by both
pub filter_twice : {X : Type 0} (p q r : X → Bool) → ((x : X) → r x ≡ (q x && p x)) → (xs : List X) → filter p (filter q xs) ≡ filter r xs
filter_twice p q r h [] = refl
filter_twice {X} p q r h (x ∷ xs) = at (q x) (r x) (h x) (filter_twice p q r h xs)
  where
    at : (a c : Bool) → c ≡ (a && p x) → filter p (filter q xs) ≡ filter r xs → filter p (cond a (x ∷ filter q xs) (filter q xs)) ≡ cond c (x ∷ filter r xs) (filter r xs)
    at true c e rest = ap (λ (l : List X). cond (p x) (x ∷ l) l) rest ∙ ap (λ b. cond b (x ∷ filter r xs) (filter r xs)) (sym e)
    at false c e rest = rest ∙ ap (λ b. cond b (x ∷ filter r xs) (filter r xs)) (sym e)

-- a test that each element passes keeps all
pub filter_all : {X : Type 0} (p : X → Bool) → ((x : X) → p x ≡ true) → (xs : List X) → filter p xs ≡ xs
filter_all p h [] = refl
filter_all p h (x ∷ xs) = ap (λ b. cond b (x ∷ filter p xs) (filter p xs)) (h x) ∙ ap (λ l. x ∷ l) (filter_all p h xs)
