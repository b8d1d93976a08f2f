-- Lists that are made element by element.
use Rattle.std.proofs.Common.{◌≡◌, ℕ, ◌+◌, ◌<◌, ◌≤◌, Bool, true, List, [], ◌∷◌, ◌++◌, length, take, map, get_or, refl, sym, ◌∙◌, ap, subst, append_assoc, append-nil}
use Rattle.std.specs.List.{AllZip, list_all}
use Rattle.std.proofs.lemmas.Bool.{and_from}
use Rattle.std.proofs.lemmas.List.{take_more, take_all}
use Rattle.std.proofs.lemmas.List.Folds.{list_all-append}

pub map-snoc : {A B : Type 0} (f : A → B) (xs : List A) (x : A) → map f (xs ++ x ∷ []) ≡ map f xs ++ f x ∷ []
map-snoc f [] x = refl
map-snoc f (y ∷ xs) x = ap (λ l. f y ∷ l) (map-snoc f xs x)

pub map-map : {X Y Z : Type 0} (f : Y → Z) (g : X → Y) (xs : List X) → map f (map g xs) ≡ map (λ x. f (g x)) xs
map-map f g [] = refl
map-map f g (x ∷ xs) = ap (λ l. f (g x) ∷ l) (map-map f g xs)

-- one more of a list that is copied
pub copied-more : {X Y : Type 0} (seen : X → Y) (old new : List X) (x : X) (rest next all : List Y) → new ≡ old ++ x ∷ [] → rest ≡ seen x ∷ next → map seen old ++ rest ≡ all → map seen new ++ next ≡ all
copied-more seen old new x rest next all added is so_far =
    ap (λ l. map seen l ++ next) added ∙ ap (λ l. l ++ next) (map-snoc seen old x) ∙ append_assoc (map seen old) (seen x ∷ []) next ∙ ap (λ l. map seen old ++ l) (sym is) ∙ so_far

pub copied-all : {X Y : Type 0} (seen : X → Y) (old : List X) (rest all : List Y) → rest ≡ [] → map seen old ++ rest ≡ all → map seen old ≡ all
copied-all seen old rest all none so_far = sym (append-nil (map seen old)) ∙ ap (λ l. map seen old ++ l) (sym none) ∙ so_far

-- a test that holds of each element so far
pub all-more : {X : Type 0} (test : X → Bool) (xs : List X) (n : ℕ) (x : X) → n < length xs → test (get_or xs n x) ≡ true → list_all test (take n xs) ≡ true → list_all test (take (n + 1) xs) ≡ true
all-more test xs n x lt here so_far =
    ap (list_all test) (take_more xs n x lt) ∙ list_all-append test (take n xs) (get_or xs n x ∷ []) ∙ and_from _ _ so_far (and_from _ _ here refl)

pub all-all : {X : Type 0} (test : X → Bool) (xs : List X) (n : ℕ) → length xs ≤ n → list_all test (take n xs) ≡ true → list_all test xs ≡ true
all-all test xs n past is = ap (list_all test) (sym (take_all n xs past)) ∙ is

-- one more of two lists, element by element
pub zip-snoc : {A B : Type 0} (R : A → B → Type 0) (xs : List A) (ys : List B) (x : A) (y : B) → AllZip R xs ys → R x y → AllZip R (xs ++ x ∷ []) (ys ++ y ∷ [])
zip-snoc R [] [] x y all is = (is, tt)
zip-snoc R [] (b ∷ ys) x y all is = absurd all
zip-snoc R (a ∷ xs) [] x y all is = absurd all
zip-snoc R (a ∷ xs) (b ∷ ys) x y all is = (all.0, zip-snoc R xs ys x y all.1 is)

pub zip-more : {A B : Type 0} (R : A → B → Type 0) (old new : List A) (ys : List B) (n : ℕ) (x : A) (y : B) → n < length ys → new ≡ old ++ x ∷ [] → R x (get_or ys n y) → AllZip R old (take n ys) →
    AllZip R new (take (n + 1) ys)
zip-more R old new ys n x y lt added is so_far =
    subst (λ l. AllZip R l (take (n + 1) ys)) (sym added) (subst (AllZip R (old ++ x ∷ [])) (sym (take_more ys n y lt)) (zip-snoc R old (take n ys) x (get_or ys n y) so_far is))

pub zip-all : {A B : Type 0} (R : A → B → Type 0) (xs : List A) (ys : List B) (n : ℕ) → length ys ≤ n → AllZip R xs (take n ys) → AllZip R xs ys
zip-all R xs ys n past is = subst (AllZip R xs) (take_all n ys past) is
