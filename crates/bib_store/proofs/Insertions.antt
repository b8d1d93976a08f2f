-- An item that comes among others, or goes: what is gathered of all.
use Rattle.bib_store.proofs.Words.{◌≡◌, ℕ, List, [], ◌∷◌, ◌++◌, length, map, Some, insert, remove, refl, sym, ◌∙◌, ap, ap₂, map-append, length-map, Tree, Macros, months, macros_after, macros_at, gathered, gathered-append}
use Rattle.std.proofs.Common.{slice_get}
use Rattle.bib_spec.specs.Reading.{Item}
use Rattle.bib_entries.proofs.Tables.{map-insert, map-remove}

-- ---- lists

pub put_between : {X : Type 0} (a b : List X) (x : X) → insert (a ++ b) (length a) x ≡ a ++ x ∷ b
put_between [] b x = refl
put_between {X} (y ∷ a) b x = ap (λ (l : List X). y ∷ l) (put_between a b x)

pub taken_between : {X : Type 0} (a b : List X) (x : X) → remove (a ++ x ∷ b) (length a) ≡ a ++ b
taken_between [] b x = refl
taken_between {X} (y ∷ a) b x = ap (λ (l : List X). y ∷ l) (taken_between a b x)

pub stands_between : {X : Type 0} (a b : List X) (x : X) → slice_get (a ++ x ∷ b) (length a) ≡ Some x
stands_between [] b x = refl
stands_between (y ∷ a) b x = stands_between a b x

pub map-put : {X Y : Type 0} (f : X → Y) (a b : List X) (x : X) (y : Y) (k : ℕ) → y ≡ f x → k ≡ length a → insert (map f (a ++ b)) k y ≡ map f (a ++ x ∷ b)
map-put {X} {Y} f a b x y k is at = ap₂ (λ (j : ℕ) (z : Y). insert (map f (a ++ b)) j z) at is ∙ sym (map-insert f (a ++ b) (length a) x) ∙ ap (map f) (put_between a b x)

pub map-taken : {X Y : Type 0} (f : X → Y) (a b : List X) (x : X) (k : ℕ) → k ≡ length a → remove (map f (a ++ x ∷ b)) k ≡ map f (a ++ b)
map-taken {X} {Y} f a b x k at = ap (λ (j : ℕ). remove (map f (a ++ x ∷ b)) j) at ∙ sym (map-remove f (a ++ x ∷ b) (length a)) ∙ ap (map f) (taken_between a b x)

pub map-stands : {X Y : Type 0} (f : X → Y) (a b : List X) (x : X) (y : Y) (k : ℕ) → y ≡ f x → k ≡ length a → slice_get (map f (a ++ x ∷ b)) k ≡ Some y
map-stands {X} {Y} f a b x y k is at =
    ap₂ (λ (l : List Y) (j : ℕ). slice_get l j) (map-append f a (x ∷ b)) (at ∙ sym (length-map a f)) ∙ stands_between (map f a) (map f b) (f x) ∙ ap Some (sym is)

-- ---- what is said of all items

pub gathered-with : {X : Type 0} (say : Macros → Tree → List X) (before after : List Item) (x : Item) (said : List X)
    → macros_after (macros_at months before (length before)) x.tree ≡ macros_at months before (length before) → say (macros_at months before (length before)) x.tree ≡ said
    → gathered say months (before ++ x ∷ after) ≡ gathered say months before ++ (said ++ gathered say (macros_at months before (length before)) after)
gathered-with {X} say before after x said same says =
    gathered-append say months before (x ∷ after)
    ∙ ap₂ (λ (s : List X) (m : Macros). gathered say months before ++ (s ++ gathered say m after)) says same
