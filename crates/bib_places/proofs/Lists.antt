-- What is made of each place, one after another.
use Rattle.std.proofs.Common.{◌≡◌, ℕ, suc, ◌+◌, ◌<◌, ◌≤◌, Bool, true, ◌&&◌, List, [], ◌∷◌, ◌++◌, Option, None, Some, length, take, drop, map, get_or, filter_map, option_map, refl, sym, ◌∙◌, ap, ap₂, append_assoc, append-nil}
use Rattle.std.specs.List.{flat_map, list_all, cons_option}
use Rattle.std.specs.Option.{option_to_list}
use Rattle.std.proofs.lemmas.Bool.{and_from}
use Rattle.std.proofs.lemmas.List.{drop_all, drop_more, take_more, take_all}
use Rattle.std.proofs.lemmas.List.Folds.{list_all-append}
use Rattle.bib_spec.specs.Text.{Text}
use Rattle.bib_spec.specs.Reading.{Reading}
use Rattle.merge_spec.specs.Units.{Spaced, Label, label_of}
use Rattle.bib_units.specs.declared.unit_view.UnitView.{UnitView}
use Rattle.bib_units.specs.Labels.{label_seen}
use Rattle.bib_units.specs.UnitsSeen.{AreUnits}

-- the elements from a number on begin with the one of that number
pub drop-next : {X : Type 0} (xs : List X) (n : ℕ) (x : X) → n < length xs → drop n xs ≡ get_or xs n x ∷ drop (n + 1) xs
drop-next xs n x lt = drop_more xs n x lt

-- with what the elements from number n on give, the list is that of all
abbrev pub IsGatheredTo : {X Y : Type 0} → (X → List Y) → List Y → List X → ℕ → List Y → Type 0
IsGatheredTo gives first xs n out = out ++ flat_map gives (drop n xs) ≡ first ++ flat_map gives xs

pub gathered-more : {X Y : Type 0} (gives : X → List Y) (first : List Y) (xs : List X) (n : ℕ) (x : X) (old new : List Y) → n < length xs → new ≡ old ++ gives (get_or xs n x) → IsGatheredTo gives first xs n old → IsGatheredTo gives first xs (n + 1) new
gathered-more gives first xs n x old new lt is so_far =
    ap (λ l. l ++ flat_map gives (drop (n + 1) xs)) is
    ∙ append_assoc old (gives (get_or xs n x)) (flat_map gives (drop (n + 1) xs))
    ∙ ap (λ l. old ++ flat_map gives l) (sym (drop-next xs n x lt))
    ∙ so_far

-- the same of an element that was read
pub gathered-next : {X Y : Type 0} (gives : X → List Y) (first : List Y) (xs : List X) (n : ℕ) (x : X) (old new : List Y) → n < length xs → x ≡ get_or xs n x → new ≡ old ++ gives x → IsGatheredTo gives first xs n old → IsGatheredTo gives first xs (n + 1) new
gathered-next gives first xs n x old new lt read is so_far = gathered-more gives first xs n x old new lt (is ∙ ap (λ y. old ++ gives y) read) so_far

pub gathered-all : {X Y : Type 0} (gives : X → List Y) (first : List Y) (xs : List X) (n : ℕ) (out : List Y) → length xs ≤ n → IsGatheredTo gives first xs n out → out ≡ first ++ flat_map gives xs
gathered-all gives first xs n out past is = sym (append-nil out) ∙ ap (λ l. out ++ flat_map gives l) (sym (drop_all n xs past)) ∙ is

-- what is gathered from places as the definitions have them
pub flat_map-map : {X Y Z : Type 0} (gives : Y → List Z) (f : X → Y) (xs : List X) → flat_map gives (map f xs) ≡ flat_map (λ x. gives (f x)) xs
flat_map-map gives f [] = refl
flat_map-map gives f (x ∷ xs) = ap (λ l. gives (f x) ++ l) (flat_map-map gives f xs)

pub map-map : {X Y Z : Type 0} (f : Y → Z) (g : X → Y) (xs : List X) → map f (map g xs) ≡ map (λ x. f (g x)) xs
map-map f g [] = refl
map-map f g (x ∷ xs) = ap (λ l. f (g x) ∷ l) (map-map f g xs)

pub map-snoc : {A B : Type 0} (f : A → B) (xs : List A) (x : A) → map f (xs ++ x ∷ []) ≡ map f xs ++ f x ∷ []
map-snoc f [] x = refl
map-snoc f (y ∷ xs) x = ap (λ l. f y ∷ l) (map-snoc f xs x)

-- the texts of the labels that are left
pub left-codes : {X : Type 0} (code : Label → Text) (left : X → Option Label) (xs : List X) → map code (filter_map left xs) ≡ flat_map (λ x. option_to_list (option_map code (left x))) xs
left-codes code left [] = refl
left-codes code left (x ∷ xs) = at (left x) (left-codes code left xs)
  where
    at : (o : Option Label) → map code (filter_map left xs) ≡ flat_map (λ y. option_to_list (option_map code (left y))) xs →
        map code (cons_option o (filter_map left xs)) ≡ option_to_list (option_map code o) ++ flat_map (λ y. option_to_list (option_map code (left y))) xs
    at None e = e
    at (Some l) e = ap (λ ls. code l ∷ ls) e

-- a test that holds of each element so far
pub all-more : {X : Type 0} (test : X → Bool) (xs : List X) (n : ℕ) (x : X) → n < length xs → test (get_or xs n x) ≡ true → list_all test (take n xs) ≡ true → list_all test (take (n + 1) xs) ≡ true
all-more test xs n x lt here so_far =
    ap (list_all test) (take_more xs n x lt) ∙ list_all-append test (take n xs) (get_or xs n x ∷ []) ∙ and_from _ _ so_far (and_from _ _ here refl)

pub all-all : {X : Type 0} (test : X → Bool) (xs : List X) (n : ℕ) → length xs ≤ n → list_all test (take n xs) ≡ true → list_all test xs ≡ true
all-all test xs n past is = ap (list_all test) (sym (take_all n xs past)) ∙ is

pub all-map : {X Y : Type 0} (test : Y → Bool) (f : X → Y) (xs : List X) → list_all test (map f xs) ≡ list_all (λ x. test (f x)) xs
all-map test f [] = refl
all-map test f (x ∷ xs) = ap (λ b. test (f x) && b) (all-map test f xs)

-- the units of the code are as many
pub same-length : (r : Reading) (views : List UnitView) (all : List Spaced) → AreUnits r views all → length views ≡ length (map (λ s. s.unit) all)
same-length r [] [] are = refl
same-length r [] (s ∷ all) are = absurd are
same-length r (v ∷ views) [] are = absurd are
same-length r (v ∷ views) (s ∷ all) are = ap suc (same-length r views all are.1)

-- the labels of the units of the code
pub same-labels : (r : Reading) (views : List UnitView) (all : List Spaced) → AreUnits r views all → map (λ (v : UnitView). label_seen v.label) views ≡ map label_of (map (λ s. s.unit) all)
same-labels r [] [] are = refl
same-labels r [] (s ∷ all) are = absurd are
same-labels r (v ∷ views) [] are = absurd are
same-labels r (v ∷ views) (s ∷ all) are = ap₂ (λ (l : Label) (ls : List Label). l ∷ ls) are.0.label (same-labels r views all are.1)

-- one element for each is a `map`
pub flat_map-one : {X Y : Type 0} (f : X → Y) (xs : List X) → flat_map (λ x. f x ∷ []) xs ≡ map f xs
flat_map-one f [] = refl
flat_map-one f (x ∷ xs) = ap (λ l. f x ∷ l) (flat_map-one f xs)

-- a list to which at most one element is added
pub map-added : {A B : Type 0} (f : A → B) (xs : List A) (x : Option A) → map f (xs ++ option_to_list x) ≡ map f xs ++ option_to_list (option_map f x)
map-added f [] None = refl
map-added f [] (Some x) = refl
map-added f (y ∷ xs) x = ap (λ l. f y ∷ l) (map-added f xs x)
