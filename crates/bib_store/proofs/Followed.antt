-- Tables that follow items which come and go.
use Rattle.bib_store.proofs.Words.{◌≡◌, ◌≢◌, ⊎_elim, inl, inr, ℕ, zero, suc, ◌+◌, ◌-◌, ◌≤◌, ◌<◌, ◌^◌, List, [], ◌∷◌, ◌++◌, length, map, take, drop, get_or, None, Some, sym, subst, ◌∙◌, ap, ap₂, refl, arith, length-append, AllByRecursion, between, none-some, same_Some, slice_get-get_or, length-map}
use Rattle.bib_store.proofs.Words.{drop-map, drop-drop, drop_all, name_limit, Text, Tree, IsTree, tree_bytes, Macros, View, view_of, kind_of, item, item_at, Tables, texts_at, first_too_long, placed_texts, AreTablesOf, IsInsertion, IsRemoval, IsTooLongAt, SayTheSame, item_with, AreAllSettled, IsFirm}
use Rattle.bib_store.proofs.Words.{bodies_between, AreItemsOf, AreOthersOf, DefineNothing, HaveShortTexts, MayPass}
use Rattle.std.proofs.Common.{slice_get}
use Rattle.std.proofs.lemmas.List.{length-take-le, length-drop, get_or-map, get_or-take, get_or-drop, take_all}
use Rattle.bib_spec.specs.Reading as reading
use Rattle.bib_scan.specs.declared.view.Kind.TheVariants as kind
use Rattle.bib_items.specs.declared.list.Item.{Item}
use Rattle.bib_entries.proofs.Tables.{heads}
use Rattle.bib_store.specs.TablesOf.{OfSeen}
use Rattle.bib_store.proofs.BoundedItems.{bounded_after}
use Rattle.bib_store.proofs.Settled.{all_settled}

-- ---- one item of several

-- item n of these, and those after it
pub record IsNext (items : List reading.Item) (n : ℕ) (body : Text) : Type 0 where
  pub it : reading.Item
  pub parts : drop n items ≡ it ∷ drop (suc n) items
  pub tree : IsTree name_limit it.tree
  pub bytes : tree_bytes it.tree ≡ body

pub next_of : (bodies : List Text) (items : List reading.Item) (n : ℕ) (body : Text) → AreItemsOf bodies items → slice_get bodies n ≡ Some body → IsNext items n body
next_of bodies [] n body are at = absurd (none-some body (ap (λ (l : List Text). slice_get l n) are.same ∙ at))
next_of [] (i ∷ items) n body are at = absurd (none-some body at)
next_of (b ∷ bodies) (i ∷ items) zero body are at = record { it = i; parts = refl; tree = are.trees.0; bytes = (heads are.same).0 ∙ same_Some b body at }
next_of (b ∷ bodies) (i ∷ items) (suc n) body are at =
    let n' = next_of bodies items n body (record { trees = are.trees.1; same = (heads are.same).1 }) at in
    record { it = n'.it; parts = n'.parts; tree = n'.tree; bytes = n'.bytes }

-- what holds of all holds of it
pub all_next : (P : reading.Item → Type 0) (items rest : List reading.Item) (n : ℕ) (it : reading.Item) → drop n items ≡ it ∷ rest → AllByRecursion P items → P it
all_next P [] rest zero it parts all = absurd (omega (arith, ap (length {A = reading.Item}) parts))
all_next P [] rest (suc n) it parts all = absurd (omega (arith, ap (length {A = reading.Item}) parts))
all_next P (i ∷ items) rest zero it parts all = subst P (heads parts).0 all.0
all_next P (i ∷ items) rest (suc n) it parts all = all_next P items rest n it parts all.1

all_drop : (P : reading.Item → Type 0) (items : List reading.Item) (n : ℕ) → AllByRecursion P items → AllByRecursion P (drop n items)
all_drop P items zero all = all
all_drop P [] (suc n) all = tt
all_drop P (i ∷ items) (suc n) all = all_drop P items n all.1

pub dropped : (t : Tables) (bodies : List Text) (items : List reading.Item) (n : ℕ) → MayPass t bodies items → MayPass t (drop n bodies) (drop n items)
dropped t bodies items n pass = record {
  are = record {
    trees = all_drop (λ (i : reading.Item). IsTree name_limit i.tree) items n pass.are.trees;
    same = sym (drop-map (λ (i : reading.Item). tree_bytes i.tree) n items) ∙ ap (drop n) pass.are.same;
  };
  may = ⊎_elim (λ plain. inl (all_drop (λ (i : reading.Item). kind_of i.tree ≢ kind.Macro) items n plain)) (λ firm. inr firm) pass.may;
}

pub counted_items : (bodies : List Text) (items : List reading.Item) → AreItemsOf bodies items → length items ≡ length bodies
counted_items bodies items are = sym (length-map items (λ (i : reading.Item). tree_bytes i.tree)) ∙ ap (length {A = Text}) are.same

-- ---- the bodies of a stretch

pub length-taken : (items : List Item) (from to : ℕ) → from ≤ to → to ≤ length items → length (between from to items) ≡ to - from
length-taken items from to order within = length-take-le (to - from) (drop from items) (omega (arith, order, within, length-drop from items))

pub length-between : (items : List Item) (from to : ℕ) → from ≤ to → to ≤ length items → length (bodies_between from to items) ≡ to - from
length-between items from to order within =
    length-map (between from to items) (λ (i : Item). i.body) ∙ length-taken items from to order within

pub body_between : (items : List Item) (from to k : ℕ) (body : Text) → from ≤ k → k < to → to ≤ length items → body ≡ (item_at items k).body → slice_get (bodies_between from to items) (k - from) ≡ Some body
body_between items from to k body low high within is =
    let n = k - from in
    let back : from + n ≡ k = omega (arith, low) in
    slice_get-get_or (bodies_between from to items) n [] (omega (arith, low, high, length-between items from to (omega (arith, low, high)) within))
    ∙ ap Some (
    get_or-map (λ (i : Item). i.body) (between from to items) n (item [] []) [] (omega (arith, low, high, length-taken items from to (omega (arith, low, high)) within))
    ∙ ap (λ (i : Item). i.body) (get_or-take (to - from) (drop from items) n (item [] []) (omega (arith, low, high)) ∙ get_or-drop from items n (item [] []) ∙ ap (λ (j : ℕ). get_or items j (item [] [])) back)
    ∙ sym is)

only_of : (xs : List Text) (x : Text) → length xs ≡ 1 → slice_get xs 0 ≡ Some x → xs ≡ x ∷ []
only_of [] x one at = absurd (omega (arith, one))
only_of (y ∷ []) x one at = ap (λ (z : Text). z ∷ []) (same_Some y x at)
only_of (y ∷ z ∷ xs) x one at = absurd (omega (arith, one))

-- one item alone
pub one_between : (items : List Item) (n : ℕ) (body : Text) → n < length items → body ≡ (item_at items n).body → bodies_between n (n + 1) items ≡ body ∷ []
one_between items n body within is =
    let one : n + 1 - n ≡ 1 = omega arith in
    let none : n - n ≡ 0 = omega arith in
    only_of (bodies_between n (n + 1) items) body
    (length-between items n (n + 1) (omega arith) (omega (arith, within)) ∙ one)
    (ap (slice_get (bodies_between n (n + 1) items)) (sym none) ∙ body_between items n (n + 1) n body (omega arith) (omega arith) (omega (arith, within)) is)

take_none : {X : Type 0} (k : ℕ) (xs : List X) → xs ≡ [] → take k xs ≡ []
take_none zero xs e = refl
take_none (suc k) [] e = refl
take_none {X} (suc k) (x ∷ xs) e = absurd (omega (arith, ap (length {A = X}) e))

drop_take : {X : Type 0} (n m : ℕ) (xs : List X) → drop n (take m xs) ≡ take (m - n) (drop n xs)
drop_take zero m xs = let e : m ≡ m - 0 = omega arith in ap (λ (k : ℕ). take k xs) e
drop_take (suc n) zero xs = let e : zero ≡ zero - suc n = omega arith in ap (λ (k : ℕ). take k (drop (suc n) xs)) e
drop_take (suc n) (suc m) [] = sym (take_none (suc m - suc n) [] refl)
drop_take (suc n) (suc m) (x ∷ xs) = let e : m - n ≡ suc m - suc n = omega arith in drop_take n m xs ∙ ap (λ (k : ℕ). take k (drop n xs)) e

pub between_later : (items : List Item) (from to n : ℕ) → from + n ≤ to → bodies_between (from + n) to items ≡ drop n (bodies_between from to items)
between_later items from to n low =
    let e : to - (from + n) ≡ to - from - n = omega arith in
    ap₂ (λ (k : ℕ) (l : List Item). map (λ (i : Item). i.body) (take k l)) e (sym (drop-drop n from items))
    ∙ ap (map (λ (i : Item). i.body)) (sym (drop_take n (to - from) (drop from items)))
    ∙ sym (drop-map (λ (i : Item). i.body) n (between from to items))

-- ---- some went

-- the first n of the items are out of the tables
pub record TakenSoFar (n at from to : ℕ) (items : List Item) (old now : Tables) : Type 0 where
  pub tables : (before gone after : List reading.Item) → length before ≡ at → MayPass old (bodies_between from to items) gone → at + (length gone + length after) < 2 ^ 64
      → AreTablesOf (before ++ (gone ++ after)) old → AreTablesOf (before ++ (drop n gone ++ after)) now
  pub firm : IsFirm old → IsFirm now

-- the items from the n-th on are in the tables
pub record PutSoFar (n at from to : ℕ) (items : List Item) (old now : Tables) : Type 0 where
  pub tables : (before new after : List reading.Item) → length before ≡ at → MayPass old (bodies_between from to items) new → at + (length new + length after) < 2 ^ 64
      → AreTablesOf (before ++ after) old → AreTablesOf (before ++ (drop n new ++ after)) now
  pub firm : IsFirm old → IsFirm now
  pub sees : (new : List reading.Item) → AreOthersOf (bodies_between from to items) new → texts_at now.definitions at ≡ texts_at old.definitions at
  pub short : (new : List reading.Item) → AreOthersOf (bodies_between from to items) new → HaveShortTexts (texts_at old.definitions at) (drop n new)

-- items after others of which firm tables tell are settled
settled_after : (t : Tables) (before after : List reading.Item) → IsFirm t → AreTablesOf (before ++ after) t → AreAllSettled after
settled_after t before after firm are = all_settled t.bounds after firm.settled (bounded_after t.bounds before after are.bounds)

-- ---- one more

module _ (n at from to : ℕ) (items : List Item) (old now next : Tables) (body : Text) (view : View)
    (stands : slice_get (bodies_between from to items) n ≡ Some body)
    (sees : (tree : Tree) → IsTree name_limit tree → tree_bytes tree ≡ body → view ≡ view_of (item_with tree [])) where
  abbrev body_of : (some : List reading.Item) → AreItemsOf (bodies_between from to items) some → IsNext some n body
  body_of some are = next_of (bodies_between from to items) some n body are stands

  other_of : (some : List reading.Item) (are : AreItemsOf (bodies_between from to items) some) → DefineNothing some → kind_of (body_of some are).it.tree ≢ kind.Macro
  other_of some are plain = let b = body_of some are in all_next (λ (i : reading.Item). kind_of i.tree ≢ kind.Macro) some (drop (suc n) some) n b.it b.parts plain

  few : (some after : List reading.Item) → at + (length some + length after) < 2 ^ 64 → at + length (drop (suc n) some ++ after) < 2 ^ 64
  few some after fits = omega (arith, fits, length-append (drop (suc n) some) after, length-drop (suc n) some)

  -- if it is a definition, the items after it are settled
  still : (some before after : List reading.Item) (pass : MayPass old (bodies_between from to items) some) → (IsFirm old → AreAllSettled after) → kind_of (body_of some pass.are).it.tree ≡ kind.Macro → AreAllSettled after
  still some before after pass settled is = ⊎_elim (λ plain. absurd (other_of some pass.are plain is)) settled pass.may

  pub forget_more : TakenSoFar n at from to items old now → OfSeen view (λ tree. IsRemoval at tree now next) → (IsFirm now → IsFirm next) → TakenSoFar (suc n) at from to items old next
  forget_more taken step firm = record {
    tables = λ before gone after count pass fits t.
        let b = body_of gone pass.are in
        let rest : List reading.Item = drop (suc n) gone ++ after in
        let u : AreTablesOf (before ++ b.it ∷ rest) now = subst (λ (l : List reading.Item). AreTablesOf (before ++ (l ++ after)) now) b.parts (taken.tables before gone after count pass fits t) in
        step b.it.tree b.tree (sees b.it.tree b.tree b.bytes) before rest b.it.trail count (few gone after fits)
        (still gone before rest pass (λ f. (settled_after now before (b.it ∷ rest) (taken.firm f) u).1)) u;
    firm = λ f. firm (taken.firm f);
  }

  pub learn_more : PutSoFar (suc n) at from to items old now → OfSeen view (λ tree. IsInsertion at tree now next) → (IsFirm now → IsFirm next)
      → ((view.kind ≡ kind.Macro → ⊥) → texts_at next.definitions at ≡ texts_at now.definitions at) → PutSoFar n at from to items old next
  learn_more put step firm kept = record {
    tables = λ before new after count pass fits t.
        let b = body_of new pass.are in
        let rest : List reading.Item = drop (suc n) new ++ after in
        let u : AreTablesOf (before ++ rest) now = put.tables before new after count pass fits t in
        subst (λ (l : List reading.Item). AreTablesOf (before ++ (l ++ after)) next) (sym b.parts)
        ((step b.it.tree b.tree (sees b.it.tree b.tree b.bytes)).tables before rest b.it.trail count (few new after fits)
        (still new before rest pass (λ f. settled_after now before rest (put.firm f) u)) u);
    firm = λ f. firm (put.firm f);
    sees = λ new others.
        let b = body_of new others.are in
        kept (λ is. other_of new others.are others.others (sym (ap (λ (v : View). v.kind) (sees b.it.tree b.tree b.bytes)) ∙ is)) ∙ put.sees new others;
    short = λ new others.
        let b = body_of new others.are in
        subst (HaveShortTexts (texts_at old.definitions at)) (sym b.parts) (
          ap (λ (m : Macros). first_too_long (placed_texts m b.it.tree)) (sym (put.sees new others)) ∙ (step b.it.tree b.tree (sees b.it.tree b.tree b.bytes)).texts,
          put.short new others,
        );
  }

  -- an item whose text is too long is not one of those that fit
  pub learn_over : (place : ℕ) → PutSoFar (suc n) at from to items old now → OfSeen view (λ tree. IsTooLongAt at tree now place)
      → (new : List reading.Item) → AreOthersOf (bodies_between from to items) new → HaveShortTexts (texts_at old.definitions at) new → ⊥
  learn_over place put over new others short =
      let b = body_of new others.are in
      none-some place (sym (all_next (λ (i : reading.Item). first_too_long (placed_texts (texts_at old.definitions at) i.tree) ≡ None) new (drop (suc n) new) n b.it b.parts short)
      ∙ ap (λ (m : Macros). first_too_long (placed_texts m b.it.tree)) (sym (put.sees new others)) ∙ over b.it.tree b.tree (sees b.it.tree b.tree b.bytes))

-- none is in the tables yet
pub learn_none : (at from to : ℕ) (items : List Item) (old : Tables) → from ≤ to → to ≤ length items → PutSoFar (to - from) at from to items old old
learn_none at from to items old order within = record {
  tables = λ before new after count pass fits t. subst (λ (l : List reading.Item). AreTablesOf (before ++ (l ++ after)) old) (sym (gone new pass.are)) t;
  firm = λ f. f;
  sees = λ new others. refl;
  short = λ new others. subst (HaveShortTexts (texts_at old.definitions at)) (sym (gone new others.are)) tt;
}
  where
    gone : (new : List reading.Item) → AreItemsOf (bodies_between from to items) new → drop (to - from) new ≡ []
    gone new are = drop_all (to - from) new (omega (arith, counted_items (bodies_between from to items) new are, length-between items from to order within))

pub forget_none : (at from to : ℕ) (items : List Item) (old : Tables) → TakenSoFar 0 at from to items old old
forget_none at from to items old = record { tables = λ before gone after count pass fits t. t; firm = λ f. f }

pub forget_all : (n at from to : ℕ) (items : List Item) (old now : Tables) → from ≤ to → to ≤ length items → to - from ≤ n → TakenSoFar n at from to items old now
    → (before gone after : List reading.Item) → length before ≡ at → MayPass old (bodies_between from to items) gone → at + (length gone + length after) < 2 ^ 64
    → AreTablesOf (before ++ (gone ++ after)) old → AreTablesOf (before ++ after) now
forget_all n at from to items old now order within all taken before gone after count pass fits t =
    subst (λ (l : List reading.Item). AreTablesOf (before ++ (l ++ after)) now)
    (drop_all n gone (omega (arith, all, counted_items (bodies_between from to items) gone pass.are, length-between items from to order within)))
    (taken.tables before gone after count pass fits t)

-- those that came are taken out again
pub learn_back : (n m at from to : ℕ) (items : List Item) (old now tried back : Tables) → m ≡ from + suc n → m ≤ to → to ≤ length items → PutSoFar (suc n) at from to items old now → SayTheSame now tried → (IsFirm now → IsFirm tried)
    → ((before gone after : List reading.Item) → length before ≡ at → MayPass tried (bodies_between m to items) gone → at + (length gone + length after) < 2 ^ 64
    → AreTablesOf (before ++ (gone ++ after)) tried → AreTablesOf (before ++ after) back)
    → (before new after : List reading.Item) → length before ≡ at → MayPass old (bodies_between from to items) new → at + (length new + length after) < 2 ^ 64
    → AreTablesOf (before ++ after) old → AreTablesOf (before ++ after) back
learn_back n m at from to items old now tried back is low within put same firm taken before new after count pass fits t =
    let later : bodies_between m to items ≡ drop (suc n) (bodies_between from to items)
    = ap (λ (k : ℕ). bodies_between k to items) is ∙ between_later items from to (suc n) (omega (arith, is, low)) in
    let rest : MayPass old (bodies_between m to items) (drop (suc n) new)
    = subst (λ (bodies : List Text). MayPass old bodies (drop (suc n) new)) (sym later) (dropped old (bodies_between from to items) new (suc n) pass) in
    taken before (drop (suc n) new) after count
    (record { are = rest.are; may = ⊎_elim (λ plain. inl plain) (λ f. inr (firm (put.firm f))) rest.may })
    (omega (arith, fits, length-drop (suc n) new))
    (same.tables (before ++ (drop (suc n) new ++ after)) (put.tables before new after count pass fits t))

-- ---- none is a definition

take_next : (P : reading.Item → Type 0) (items rest : List reading.Item) (n : ℕ) (it : reading.Item) → drop n items ≡ it ∷ rest → AllByRecursion P (take n items) → P it → AllByRecursion P (take (suc n) items)
take_next P [] rest zero it parts all p = tt
take_next P [] rest (suc n) it parts all p = tt
take_next P (i ∷ items) rest zero it parts all p = (subst P (sym (heads parts).0) p, tt)
take_next P (i ∷ items) rest (suc n) it parts all p = (all.0, take_next P items rest n it parts all.1 p)

pub pass_more : (n : ℕ) (bodies : List Text) (body : Text) (view : View) (new : List reading.Item) → slice_get bodies n ≡ Some body → (view.kind ≡ kind.Macro → ⊥)
    → ((tree : Tree) → IsTree name_limit tree → tree_bytes tree ≡ body → view ≡ view_of (item_with tree []))
    → AreItemsOf bodies new → DefineNothing (take n new) → DefineNothing (take (suc n) new)
pass_more n bodies body view new stands other sees are all =
    let b = next_of bodies new n body are stands in
    take_next (λ (i : reading.Item). kind_of i.tree ≢ kind.Macro) new (drop (suc n) new) n b.it b.parts all
    (λ e. other (ap (λ (v : View). v.kind) (sees b.it.tree b.tree b.bytes) ∙ e))

pub pass_all : (n : ℕ) (bodies : List Text) (new : List reading.Item) → length bodies ≤ n → AreItemsOf bodies new → DefineNothing (take n new) → DefineNothing new
pass_all n bodies new all are nothing = subst DefineNothing (take_all n new (omega (arith, all, counted_items bodies new are))) nothing
