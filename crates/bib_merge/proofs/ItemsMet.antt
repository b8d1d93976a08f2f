-- The items of a file that were met, one after another.
use Rattle.std.proofs.Common.{◌≡◌, ◌≢◌, ℕ, zero, suc, ◌+◌, ◌<◌, ◌≤◌, arith, List, [], ◌∷◌, ◌++◌, Option, None, Some, length, take, drop, map, option_map, get_or, slice_get, refl, sym, ◌∙◌, ap, subst, append_assoc, append-nil}
use Rattle.std.specs.List.{flat_map}
use Rattle.std.specs.Option.{option_to_list}
use Rattle.std.proofs.lemmas.List.{drop_all, drop_more, take_all, take_more, length-map}
use Rattle.std.proofs.lemmas.List.Concat.{flat_map-append}
use Rattle.bib_spec.specs.Text.{Text}
use Rattle.bib_spec.specs.Tree.{tree_bytes}
use Rattle.bib_spec.specs.Reading.{Item, Reading}
use Rattle.bib_units.specs.UnitsSeen.{IsItemAt}
use Rattle.bib_places.specs.PlacesSeen.{IsItemUnit}
use Rattle.bib_places.proofs.Lists.{flat_map-map}
use Rattle.merge_spec.specs.Units.{Unit}
use Rattle.bib_merge.specs.Bodies.{bodies_of, version_bodies, AreMet}

-- lists with one beginning end in the same way
same_end : {X : Type 0} (xs ys zs : List X) → xs ++ ys ≡ xs ++ zs → ys ≡ zs
same_end [] ys zs is = is
same_end (x ∷ xs) ys zs is = same_end xs ys zs (tail is)
  where
    tail : x ∷ (xs ++ ys) ≡ x ∷ (xs ++ zs) → xs ++ ys ≡ xs ++ zs
    tail e = ap (drop 1) e

not_empty : {X : Type 0} (x : X) (xs : List X) → x ∷ xs ≡ [] → ⊥
not_empty x xs is = cc

same_head : {X : Type 0} (x y : X) (xs ys : List X) → x ∷ xs ≡ y ∷ ys → x ≡ y
same_head x y xs ys is = cc

-- before any is met
pub none-met : (texts : List Text) → AreMet texts [] (Some 0)
none-met texts = refl

-- the next is the one that is wanted
pub next-met : (texts wanted : List Text) (n : ℕ) (next : Text) → n < length texts → get_or texts n next ≡ next → AreMet texts wanted (Some n) → AreMet texts (wanted ++ next ∷ []) (Some (n + 1))
next-met texts wanted n next less is met =
    append_assoc wanted (next ∷ []) (drop (n + 1) texts)
    ∙ ap (λ t. wanted ++ t ∷ drop (n + 1) texts) (sym is) ∙ ap (λ l. wanted ++ l) (sym (drop_more texts n next less)) ∙ met

-- the next is another
pub next-differs : (texts wanted : List Text) (n : ℕ) (next : Text) → n < length texts → get_or texts n next ≢ next → AreMet texts wanted (Some n) → AreMet texts (wanted ++ next ∷ []) None
next-differs texts wanted n next less differs met rest is =
    differs (same_head (get_or texts n next) next (drop (n + 1) texts) rest
    (sym (drop_more texts n next less) ∙ same_end wanted (drop n texts) (next ∷ rest) (met ∙ is ∙ append_assoc wanted (next ∷ []) rest)))

-- there is no next
pub next-lacks : (texts wanted : List Text) (n : ℕ) (next : Text) → length texts ≤ n → AreMet texts wanted (Some n) → AreMet texts (wanted ++ next ∷ []) None
next-lacks texts wanted n next past met rest is =
    not_empty next rest (sym (sym (drop_all n texts past) ∙ same_end wanted (drop n texts) (next ∷ rest) (met ∙ is ∙ append_assoc wanted (next ∷ []) rest)))

-- what differs so far differs
pub still-differs : (texts wanted more : List Text) → AreMet texts wanted None → AreMet texts (wanted ++ more) None
still-differs texts wanted more differs rest is = differs (more ++ rest) (is ∙ append_assoc wanted more rest)

-- nothing more is wanted
pub met-as_is : (texts wanted : List Text) (n : Option ℕ) → AreMet texts wanted n → AreMet texts (wanted ++ []) n
met-as_is texts wanted n met = subst (λ ws. AreMet texts ws n) (sym (append-nil wanted)) met

-- ---- all of them

pub all-met : (texts wanted : List Text) (n : ℕ) → length texts ≤ n → AreMet texts wanted (Some n) → wanted ≡ texts
all-met texts wanted n past met = sym (append-nil wanted) ∙ ap (λ l. wanted ++ l) (sym (drop_all n texts past)) ∙ met

pub some-left : (texts wanted : List Text) (n : ℕ) → n < length texts → AreMet texts wanted (Some n) → wanted ≢ texts
some-left texts wanted n less met is =
    not_empty (get_or texts n []) (drop (n + 1) texts) (sym (drop_more texts n [] less) ∙ same_end wanted (drop n texts) [] (met ∙ sym is ∙ sym (append-nil wanted)))

pub none-are : (texts wanted : List Text) → AreMet texts wanted None → wanted ≢ texts
none-are texts wanted differs is = differs [] (sym is ∙ sym (append-nil wanted))

-- ---- the items of a file

pub count-bodies : (r : Reading) (count : ℕ) → count ≡ length r.items → length (bodies_of r) ≡ count
count-bodies r count is = length-map r.items (λ i. tree_bytes i.tree) ∙ sym is

-- the body of the item with this number
pub body-there : (items : List Item) (n : ℕ) (d found : Text) → n < length items → ((i : Item) → slice_get items n ≡ Some i → found ≡ tree_bytes i.tree) → get_or (map (λ i. tree_bytes i.tree) items) n d ≡ found
body-there [] n d found less is = absurd (none n less)
  where
    none : (a : ℕ) → a < 0 → ⊥
    none a = omega arith
body-there (i ∷ items) zero d found less is = sym (is i refl)
body-there (i ∷ items) (suc n) d found less is = body-there items n d found (fewer n (length items) less) is
  where
    fewer : (a b : ℕ) → suc a < suc b → a < b
    fewer a b = omega arith

-- an item that is there has a number below the count
pub item-within : (items : List Item) (n : ℕ) (i : Item) → slice_get items n ≡ Some i → length items ≤ n → ⊥
item-within [] n i is past = cc
item-within (x ∷ items) zero i is past = none (length items) past
  where
    none : (a : ℕ) → suc a ≤ 0 → ⊥
    none a = omega arith
item-within (x ∷ items) (suc n) i is past = item-within items n i is (fewer n (length items) past)
  where
    fewer : (a b : ℕ) → suc b ≤ suc a → b ≤ a
    fewer a b = omega arith

-- ---- units

-- the item that a unit is was met
pub unit-met : (r : Reading) (n : ℕ) (u : Option Unit) (texts wanted : List Text) (next : Option ℕ) → IsItemUnit r n u → ((i : Item) → IsItemAt r n i → AreMet texts (wanted ++ tree_bytes i.tree ∷ []) next) →
    AreMet texts (wanted ++ version_bodies u) next
unit-met r n None texts wanted next is met = absurd is
unit-met r n (Some unit) texts wanted next is met =
    subst (λ bs. AreMet texts (wanted ++ bs) next) (sym (ap (λ t. option_to_list (option_map tree_bytes t)) is.tree)) (met is.item is.at)

-- ---- places

pub places-more : {X : Type 0} (gives : X → List Text) (texts : List Text) (xs : List X) (k : ℕ) (x : X) (met : Option ℕ) → k < length xs → x ≡ get_or xs k x → AreMet texts (flat_map gives (take k xs) ++ gives x) met →
    AreMet texts (flat_map gives (take (k + 1) xs)) met
places-more gives texts xs k x met less read are =
    subst (λ ws. AreMet texts ws met)
    (sym (ap (flat_map gives) (take_more xs k x less)
    ∙ flat_map-append gives (take k xs) (get_or xs k x ∷ [])
    ∙ ap (λ l. flat_map gives (take k xs) ++ l) (append-nil (gives (get_or xs k x)))
    ∙ ap (λ y. flat_map gives (take k xs) ++ gives y) (sym read)))
    are

pub places-all : {X Y : Type 0} (gives : Y → List Text) (f : X → Y) (xs : List X) (k : ℕ) → length xs ≤ k → flat_map (λ x. gives (f x)) (take k xs) ≡ flat_map gives (map f xs)
places-all gives f xs k past = ap (flat_map (λ x. gives (f x))) (take_all k xs past) ∙ sym (flat_map-map gives f xs)
