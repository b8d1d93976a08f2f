-- A table of entries, when an entry comes or goes, and what the table finds.
use Rattle.std.proofs.Common.{◌≡◌, ◌≢◌, ℕ, zero, suc, ◌+◌, ◌≤◌, ◌<◌, Bool, true, false, not, ◌&&◌, List, [], ◌∷◌, ◌++◌, Option, None, Some, option_map, length, map, filter, take, drop, insert, remove, slice_get, slice_index, count_by, sym, subst, ⊎_elim, ◌∙◌, ap, ap₂, refl, arith, zero-add}
use Rattle.std.specs.Prelude.{◌==◌, nat_le, IsSome}
use Rattle.std.specs.Char.{to_ascii_lowercase}
use Rattle.std.specs.List.{enumerate_from}
use Rattle.std.specs.Option.{IfSome, IfNone}
use Rattle.std.proofs.Math.Path.{fun_ext}
use Rattle.std.proofs.lemmas.Bool.{cases_Bool, cond-true, cond-false, cases_eq, both_ways, eqb-true, leb-false, false_from_ne_true}
use Rattle.std.proofs.Math.Nat.{suc-ne-zero}
use Rattle.std.proofs.lemmas.List.{map-append, take-map, drop-map, length-map}
use Rattle.std.proofs.lemmas.Option.{none-some, same_Some, slice_get_past}
use Rattle.bib_spec.specs.Bytes.{name_limit}
use Rattle.bib_spec.specs.Text.{Text, folded, same}
use Rattle.bib_spec.specs.Texts.{is_empty}
use Rattle.bib_spec.specs.Records.{is_named, first_named}
use Rattle.bib_spec.proofs.Names.{same_comm, same-true}
use Rattle.bib_spec.proofs.Counts.{count-yes, count-no}
use Rattle.bib_order.specs.Orders.{Lacks, IsDistinct}
use Rattle.bib_order.specs.Holders.{holders}
use Rattle.bib_index.specs.KeyIndex.{is_text, has_text, with_text, IsIndexOf, ids_in}
use Rattle.bib_index.proofs.Holding.{parts, texts_follow, with_same, with_other}
use Rattle.bib_order.proofs.Counting.{lacks_at}
use Rattle.bib_entries.specs.EntryTable.{Kept, name_of, named_by, crossref_of, AreNamed, IsTableOf, numbers_having, refers, IsIndexWith, StaysIndex, GivesCrossref, HaveTheSame}

-- ---- lists

pub heads : {X : Type 0} {x y : X} {xs ys : List X} → x ∷ xs ≡ y ∷ ys → (x ≡ y) × (xs ≡ ys)
heads {X} {x} {y} {xs} {ys} e = (ap (λ (l : List X). first l) e, ap (λ (l : List X). rest l) e)
  where
    first : List X → X
    first [] = x
    first (z ∷ zs) = z

    rest : List X → List X
    rest [] = []
    rest (z ∷ zs) = zs

index_of : (ids : List ℕ) (n id : ℕ) → slice_get ids n ≡ Some id → slice_index ids n ≡ id
index_of [] n id at = absurd (none-some id at)
index_of (x ∷ ids) zero id at = same_Some x id at
index_of (x ∷ ids) (suc n) id at = index_of ids n id at

pub map-insert : {X Y : Type 0} (f : X → Y) (xs : List X) (n : ℕ) (x : X) → map f (insert xs n x) ≡ insert (map f xs) n (f x)
map-insert {X} {Y} f xs n x = map-append f (take n xs) (x ∷ drop n xs) ∙ ap₂ (λ (a b : List Y). a ++ f x ∷ b) (sym (take-map f n xs)) (sym (drop-map f n xs))

pub map-remove : {X Y : Type 0} (f : X → Y) (xs : List X) (n : ℕ) → map f (remove xs n) ≡ remove (map f xs) n
map-remove {X} {Y} f xs n = map-append f (take n xs) (drop (suc n) xs) ∙ ap₂ (λ (a b : List Y). a ++ b) (sym (take-map f n xs)) (sym (drop-map f (suc n) xs))

-- functions that agree except on one id, applied to ids that lack it
pub map-other : {Y : Type 0} (f g : ℕ → Y) (id : ℕ) → ((other : ℕ) → other ≢ id → f other ≡ g other) → (ids : List ℕ) → Lacks ids id → map f ids ≡ map g ids
map-other f g id same [] lacks = refl
map-other f g id same (x ∷ ids) lacks = ap₂ (λ y ys. y ∷ ys) (same x lacks.0) (map-other f g id same ids lacks.1)

pub map-same : {Y : Type 0} (f g : ℕ → Y) → ((id : ℕ) → f id ≡ g id) → (ids : List ℕ) → map f ids ≡ map g ids
map-same f g same [] = refl
map-same f g same (x ∷ ids) = ap₂ (λ y ys. y ∷ ys) (same x) (map-same f g same ids)

pub lacks-append : (xs ys : List ℕ) (id : ℕ) → Lacks xs id → Lacks ys id → Lacks (xs ++ ys) id
lacks-append [] ys id a b = b
lacks-append (x ∷ xs) ys id a b = (a.0, lacks-append xs ys id a.1 b)

lacks-front : (xs ys : List ℕ) (id : ℕ) → Lacks (xs ++ ys) id → Lacks xs id
lacks-front [] ys id l = tt
lacks-front (x ∷ xs) ys id l = (l.0, lacks-front xs ys id l.1)

lacks-back : (xs ys : List ℕ) (id : ℕ) → Lacks (xs ++ ys) id → Lacks ys id
lacks-back [] ys id l = l
lacks-back (x ∷ xs) ys id l = lacks-back xs ys id l.1

lacks-halves : (ids : List ℕ) (n id : ℕ) → Lacks (take n ids) id → Lacks (drop n ids) id → Lacks ids id
lacks-halves [] zero id a b = tt
lacks-halves [] (suc n) id a b = tt
lacks-halves (x ∷ ids) zero id a b = b
lacks-halves (x ∷ ids) (suc n) id a b = (a.0, lacks-halves ids n id a.1 b)

pub present : (ids : List ℕ) (n id : ℕ) → n < length ids → id ≡ slice_index ids n → slice_get ids n ≡ Some id
present [] n id h e = absurd (omega arith)
present (x ∷ ids) zero id h e = ap Some (sym e)
present (x ∷ ids) (suc n) id h e = present ids n id (omega arith) e

-- what is put in goes out again
pub put_out : {X : Type 0} (xs : List X) (n : ℕ) (x : X) → n ≤ length xs → remove (insert xs n x) n ≡ xs
put_out xs zero x h = refl
put_out [] (suc n) x h = absurd (omega arith)
put_out {X} (y ∷ xs) (suc n) x h = ap (λ (l : List X). y ∷ l) (put_out xs n x (omega arith))

-- what is put in stands there
pub put_stands : {X : Type 0} (xs : List X) (n : ℕ) (x : X) → n ≤ length xs → slice_get (insert xs n x) n ≡ Some x
put_stands xs zero x h = refl
put_stands [] (suc n) x h = absurd (omega arith)
put_stands (y ∷ xs) (suc n) x h = put_stands xs n x (omega arith)

length-insert : {X : Type 0} (xs : List X) (n : ℕ) (x : X) → n ≤ length xs → length (insert xs n x) ≡ length xs + 1
length-insert xs zero x h = omega arith
length-insert [] (suc n) x h = absurd (omega arith)
length-insert (y ∷ xs) (suc n) x h = let more = length-insert xs n x (omega arith) in omega (arith, more)

pub map-at : {X Y : Type 0} (f : X → Y) (xs : List X) (n : ℕ) (x : X) → slice_get xs n ≡ Some x → slice_get (map f xs) n ≡ Some (f x)
map-at f [] n x at = absurd (none-some x at)
map-at f (y ∷ xs) zero x at = ap (λ z. Some (f z)) (same_Some y x at)
map-at f (y ∷ xs) (suc n) x at = map-at f xs n x at

-- what lacks an id once another is put in, or taken out
lacks-insert : (ids : List ℕ) (n new id : ℕ) → Lacks (insert ids n new) id → (Lacks ids id) × (new ≢ id)
lacks-insert ids n new id l =
    let back = lacks-back (take n ids) (new ∷ drop n ids) id l in
    (lacks-halves ids n id (lacks-front (take n ids) (new ∷ drop n ids) id l) back.1, back.0)

lacks-remove : (ids : List ℕ) (n old id : ℕ) → slice_get ids n ≡ Some old → old ≢ id → Lacks (remove ids n) id → Lacks ids id
lacks-remove [] n old id e other l = tt
lacks-remove (x ∷ ids) zero old id e other l = ((λ same. other (sym (same_Some x old e) ∙ same)), l)
lacks-remove (x ∷ ids) (suc n) old id e other l = (l.0, lacks-remove ids n old id e other l.1)

-- ---- one id more, and one fewer

-- an id comes that was in no use, and gets a name
pub inserted_named : (said : List (Option Text)) (ids new_ids : List ℕ) (keys new_keys : List (Text × List ℕ)) (n id : ℕ) (name : Option Text)
    → AreNamed said ids keys → Lacks ids id → new_ids ≡ insert ids n id → n ≤ length ids
    → ((names : ℕ → Option Text) → names id ≡ None → IsIndexOf names new_ids (ids_in keys) → IsIndexWith names id name new_ids new_keys)
    → AreNamed (insert said n name) new_ids new_keys
inserted_named said ids new_ids keys new_keys n id name t lacks is fits added =
    let free = t.others id lacks in
    let with = added t.names free (subst (λ (l : List ℕ). IsIndexOf t.names l (ids_in keys)) (sym is) (texts_follow.inserted t.names ids (ids_in keys) n id fits free t.index)) in
    let gives = with.gives in
    record {
      names = with.names;
      named = ap (map with.names) is ∙ map-insert with.names ids n id
          ∙ ap₂ (λ (l : List (Option Text)) o. insert l n o) (map-other with.names t.names id gives.others ids lacks ∙ t.named) gives.itself;
      others = λ other l.
          let parts = lacks-insert ids n id other (subst (λ (l : List ℕ). Lacks l other) is l) in
          gives.others other (λ same. parts.1 (sym same)) ∙ t.others other parts.0;
      index = with.index;
    }

-- an entry comes, of an id that was in no use
pub inserted_table : (keys : List Text) (crossrefs : List (Option Text)) (old new : Kept) (n id : ℕ) (key : Text) (crossref : Option Text)
    → IsTableOf keys crossrefs old → Lacks old.ids id → new.ids ≡ insert old.ids n id
    → ((names : ℕ → Option Text) → names id ≡ None → IsIndexOf names new.ids (ids_in old.keys) → IsIndexWith names id (name_of key) new.ids new.keys)
    → ((names : ℕ → Option Text) → names id ≡ None → IsIndexOf names new.ids (ids_in old.referring) → IsIndexWith names id (named_by crossref) new.ids new.referring)
    → GivesCrossref old.crossrefs new.crossrefs id crossref → n ≤ length old.ids
    → IsTableOf (insert keys n key) (insert crossrefs n crossref) new
inserted_table keys crossrefs old new n id key crossref t lacks ids keyed referring given fits = record {
  keyed = subst (λ (l : List (Option Text)). AreNamed l new.ids new.keys) (sym (map-insert name_of keys n key))
      (inserted_named (map name_of keys) old.ids new.ids old.keys new.keys n id (name_of key) t.keyed lacks ids fits keyed);
  referring = subst (λ (l : List (Option Text)). AreNamed l new.ids new.referring) (sym (map-insert named_by crossrefs n crossref))
      (inserted_named (map named_by crossrefs) old.ids new.ids old.referring new.referring n id (named_by crossref) t.referring lacks ids fits referring);
  said = ap (map (crossref_of new.crossrefs)) ids ∙ map-insert (crossref_of new.crossrefs) old.ids n id
      ∙ ap₂ (λ (l : List (Option Text)) o. insert l n o) (map-other (crossref_of new.crossrefs) (crossref_of old.crossrefs) id given.others old.ids lacks ∙ t.said) given.itself;
}

lacks_rest : (ids : List ℕ) (n id : ℕ) → IsDistinct ids → slice_get ids n ≡ Some id → Lacks (remove ids n) id
lacks_rest ids n id distinct at =
    let p = parts ids n id distinct at in
    lacks-append (take n ids) (drop (suc n) ids) id p.front p.back

-- an id goes, once its name is taken from it
pub removed_named : (said : List (Option Text)) (ids new_ids : List ℕ) (keys new_keys : List (Text × List ℕ)) (n id : ℕ) (name : Option Text)
    → AreNamed said ids keys → IsDistinct ids → slice_get ids n ≡ Some id → slice_get said n ≡ Some name → new_ids ≡ remove ids n → n < length ids
    → ((names : ℕ → Option Text) → names id ≡ name → IsIndexOf names ids (ids_in keys) → IsIndexWith names id None ids new_keys)
    → AreNamed (remove said n) new_ids new_keys
removed_named said ids new_ids keys new_keys n id name t distinct at has is within dropped =
    let with = dropped t.names (name_at ids said n t.named at has) t.index in
    let gives = with.gives in
    let lacks = lacks_rest ids n id distinct at in
    record {
      names = with.names;
      named = ap (map with.names) is ∙ map-other with.names t.names id gives.others (remove ids n) lacks
          ∙ map-remove t.names ids n ∙ ap (λ (l : List (Option Text)). remove l n) t.named;
      others = λ other l. ⊎_elim
          (λ same. ap with.names same ∙ gives.itself)
          (λ differ. gives.others other differ
          ∙ t.others other (lacks-remove ids n id other at (λ same. differ (sym same)) (subst (λ (l : List ℕ). Lacks l other) is l)))
          (cases_eq other id);
      index = subst (λ (l : List ℕ). IsIndexOf with.names l (ids_in new_keys)) (sym is)
          (texts_follow.removed with.names ids (ids_in new_keys) n within (ap with.names (index_of ids n id at) ∙ gives.itself) with.index);
    }
  where
    name_at : (ids : List ℕ) (said : List (Option Text)) (n : ℕ) → map t.names ids ≡ said → slice_get ids n ≡ Some id → slice_get said n ≡ Some name → t.names id ≡ name
    name_at [] said n e at has = absurd (none-some id at)
    name_at (x ∷ ids) [] n e at has = absurd (none-some name has)
    name_at (x ∷ ids) (k ∷ said) zero e at has = ap t.names (sym (same_Some x id at)) ∙ (heads e).0 ∙ same_Some k name has
    name_at (x ∷ ids) (k ∷ said) (suc n) e at has = name_at ids said n (heads e).1 at has

pub removed_table : (keys : List Text) (crossrefs : List (Option Text)) (old new : Kept) (n id : ℕ) (key : Text)
    → IsTableOf keys crossrefs old → IsDistinct old.ids → slice_get old.ids n ≡ Some id → slice_get keys n ≡ Some key → new.ids ≡ remove old.ids n
    → ((names : ℕ → Option Text) → names id ≡ name_of key → IsIndexOf names old.ids (ids_in old.keys) → IsIndexWith names id None old.ids new.keys)
    → ((names : ℕ → Option Text) → names id ≡ named_by (crossref_of old.crossrefs id) → IsIndexOf names old.ids (ids_in old.referring) → IsIndexWith names id None old.ids new.referring)
    → new.crossrefs ≡ old.crossrefs → n < length old.ids
    → IsTableOf (remove keys n) (remove crossrefs n) new
removed_table keys crossrefs old new n id key t distinct at has ids unkeyed unreferring kept within = record {
  keyed = subst (λ (l : List (Option Text)). AreNamed l new.ids new.keys) (sym (map-remove name_of keys n))
      (removed_named (map name_of keys) old.ids new.ids old.keys new.keys n id (name_of key) t.keyed distinct at (map-at name_of keys n key has) ids within unkeyed);
  referring = subst (λ (l : List (Option Text)). AreNamed l new.ids new.referring) (sym (map-remove named_by crossrefs n))
      (removed_named (map named_by crossrefs) old.ids new.ids old.referring new.referring n id (named_by (crossref_of old.crossrefs id)) t.referring distinct at
      (map-at named_by crossrefs n (crossref_of old.crossrefs id) (ap (λ (l : List (Option Text)). slice_get l n) (sym t.said) ∙ map-at (crossref_of old.crossrefs) old.ids n id at)) ids within unreferring);
  said = ap₂ (λ (c : List (Option Text)) (l : List ℕ). map (crossref_of c) l) kept ids ∙ map-remove (crossref_of old.crossrefs) old.ids n
      ∙ ap (λ (l : List (Option Text)). remove l n) t.said;
}

-- an id that gets no name leaves the others
pub kept_named : (said : List (Option Text)) (ids mid_ids new_ids : List ℕ) (keys new_keys : List (Text × List ℕ)) (n id : ℕ)
    → AreNamed said ids keys → Lacks ids id → n ≤ length ids → mid_ids ≡ insert ids n id → new_ids ≡ remove mid_ids n → StaysIndex id mid_ids keys new_keys → AreNamed said new_ids new_keys
kept_named said ids mid_ids new_ids keys new_keys n id t lacks fits came went stays =
    let free = t.others id lacks in
    let back : new_ids ≡ ids = went ∙ ap (λ (l : List ℕ). remove l n) came ∙ put_out ids n id fits in
    let inside : n < length mid_ids = omega (arith, fits, ap (length {A = ℕ}) came, length-insert ids n id fits) in
    record {
      names = t.names;
      named = ap (map t.names) back ∙ t.named;
      others = λ other l. t.others other (subst (λ (l : List ℕ). Lacks l other) back l);
      index = subst (λ (l : List ℕ). IsIndexOf t.names l (ids_in new_keys)) (sym went)
          (texts_follow.removed t.names mid_ids (ids_in new_keys) n inside
          (ap t.names (index_of mid_ids n id (ap (λ (l : List ℕ). slice_get l n) came ∙ put_stands ids n id fits)) ∙ free)
          (stays t.names free (subst (λ (l : List ℕ). IsIndexOf t.names l (ids_in keys)) (sym came) (texts_follow.inserted t.names ids (ids_in keys) n id fits free t.index))));
    }

-- an entry that is taken back leaves the others
pub kept_table : (keys : List Text) (crossrefs : List (Option Text)) (old mid new : Kept) (n id : ℕ) → IsTableOf keys crossrefs old → Lacks old.ids id → n ≤ length old.ids
    → mid.ids ≡ insert old.ids n id → new.ids ≡ remove mid.ids n → StaysIndex id mid.ids old.keys new.keys → StaysIndex id mid.ids old.referring new.referring → HaveTheSame old.crossrefs new.crossrefs
    → IsTableOf keys crossrefs new
kept_table keys crossrefs old mid new n id t lacks fits came went keyed referring said =
    let back : new.ids ≡ old.ids = went ∙ ap (λ (l : List ℕ). remove l n) came ∙ put_out old.ids n id fits in
    record {
      keyed = kept_named (map name_of keys) old.ids mid.ids new.ids old.keys new.keys n id t.keyed lacks fits came went keyed;
      referring = kept_named (map named_by crossrefs) old.ids mid.ids new.ids old.referring new.referring n id t.referring lacks fits came went referring;
      said = ap (map (crossref_of new.crossrefs)) back ∙ map-same (crossref_of new.crossrefs) (crossref_of old.crossrefs) said old.ids ∙ t.said;
    }

none_named : (ids : List ℕ) (keys : List (Text × List ℕ)) → ids ≡ [] → IsIndexOf (λ _. None) [] (ids_in keys) → AreNamed [] ids keys
none_named ids keys none index = record {
  names = λ _. None;
  named = ap (λ (l : List ℕ). map (λ _. None) l) none;
  others = λ _ _. refl;
  index = subst (λ (l : List ℕ). IsIndexOf (λ _. None) l (ids_in keys)) (sym none) index;
}

pub no_table : (t : Kept) → t.ids ≡ [] → IsIndexOf (λ _. None) [] (ids_in t.keys) → IsIndexOf (λ _. None) [] (ids_in t.referring) → IsTableOf [] [] t
no_table t none keyed referring = record {
  keyed = none_named t.ids t.keys none keyed;
  referring = none_named t.ids t.referring none referring;
  said = ap (map (crossref_of t.crossrefs)) none;
}

-- ---- one name more, and one fewer

-- an id without a name has none still
pub unnamed_index : (names : ℕ → Option Text) (id : ℕ) (key : Text) (ids : List ℕ) (keys : List (Text × List ℕ)) → (length key == 0) ≡ true → names id ≡ None → IsIndexOf names ids (ids_in keys) → IsIndexWith names id (name_of key) ids keys
unnamed_index names id [] ids keys empty none is = record { names = names; gives = record { itself = none; others = λ other differ. refl }; index = is }
unnamed_index names id (b ∷ bs) ids keys empty none is = absurd (suc-ne-zero (length bs) (eqb-true (suc (length bs)) 0 empty))

pub named_index : (names : ℕ → Option Text) (id : ℕ) (key : Text) (ids : List ℕ) (keys : List (Text × List ℕ)) → (length key == 0) ≡ false
    → IsIndexOf (with_text names id (Some key)) ids (ids_in keys) → IsIndexWith names id (name_of key) ids keys
named_index names id [] ids keys named is = absurd (both_ways true named refl)
named_index names id (b ∷ bs) ids keys named is = record {
  names = with_text names id (Some (b ∷ bs));
  gives = record { itself = with_same names id (Some (b ∷ bs)); others = with_other names id (Some (b ∷ bs)) };
  index = is;
}

pub dropped_index : (names : ℕ → Option Text) (id : ℕ) (ids : List ℕ) (keys : List (Text × List ℕ)) → IsIndexOf (with_text names id None) ids (ids_in keys) → IsIndexWith names id None ids keys
dropped_index names id ids keys is = record { names = with_text names id None; gives = record { itself = with_same names id None; others = with_other names id None }; index = is }

pub name_of-some : (key : Text) → (length key == 0) ≡ false → name_of key ≡ Some key
name_of-some [] named = absurd (both_ways true named refl)
name_of-some (b ∷ bs) named = refl

-- an id for which nothing is kept has no crossref text
pub none_kept : (crossrefs : List (Option Text)) (id : ℕ) → slice_get crossrefs id ≡ None → crossref_of crossrefs id ≡ None
none_kept [] id none = refl
none_kept (x ∷ crossrefs) zero none = absurd (none-some x (sym none))
none_kept (x ∷ crossrefs) (suc id) none = none_kept crossrefs id none

-- if there is no room for it, it is given none
pub none_given : (crossrefs : List (Option Text)) (id : ℕ) (crossref : Option Text) → (IsSome crossref → id < length crossrefs) → length crossrefs ≤ id → GivesCrossref crossrefs crossrefs id crossref
none_given crossrefs id None room past = record { itself = none_kept crossrefs id (slice_get_past crossrefs id past); others = λ other differ. refl }
none_given crossrefs id (Some text) room past = absurd (omega (arith, room refl, past))

-- what is given once there is room for it is given to the texts that were there
pub given_after : (old mid new : List (Option Text)) (id : ℕ) (crossref : Option Text) → HaveTheSame old mid → GivesCrossref mid new id crossref → GivesCrossref old new id crossref
given_after old mid new id crossref same given = record { itself = given.itself; others = λ other differ. given.others other differ ∙ same other }

-- an id without a name that loses it has none still
pub unnamed_stays : (names : ℕ → Option Text) (id : ℕ) (ids : List ℕ) (keys : List (Text × List ℕ)) → names id ≡ None → IsIndexOf names ids (ids_in keys) → IsIndexWith names id None ids keys
unnamed_stays names id ids keys none is = record { names = names; gives = record { itself = none; others = λ other differ. refl }; index = is }

-- an index with a name that is taken back is one of the names that were there
pub taken_back : (names : ℕ → Option Text) (id : ℕ) (name : Option Text) (ids : List ℕ) (mid new : List (Text × List ℕ)) → names id ≡ None → IsIndexWith names id name ids mid
    → ((names : ℕ → Option Text) (order : List ℕ) → names id ≡ name → IsIndexOf names order (ids_in mid) → IsIndexWith names id None order new) → IsIndexOf names ids (ids_in new)
taken_back names id name ids mid new free with take =
    let gives = with.gives in
    let back = take with.names ids gives.itself with.index in
    let gives_back = back.gives in
    subst (λ (f : ℕ → Option Text). IsIndexOf f ids (ids_in new)) (fun_ext (λ y. ⊎_elim
    (λ same. ap back.names same ∙ gives_back.itself ∙ sym (ap names same ∙ free))
    (λ differ. gives_back.others y differ ∙ gives.others y differ)
    (cases_eq y id))) back.index

-- ---- what it finds

-- an id passes if its key is named
passes : (text key : Text) → is_text (name_of key) (folded text) ≡ is_named text key
passes text [] = refl
passes text (b ∷ bs) = same_comm text (b ∷ bs)

-- an id passes if its crossref text names the key
pub passes_named : (key : Text) (crossref : Option Text) → length key ≤ name_limit → is_text (named_by crossref) (folded key) ≡ refers key crossref
passes_named key None short = refl
passes_named key (Some text) short = ⊎_elim
    (λ t. ap (λ o. is_text o (folded key)) (cond-true (nat_le (length text) name_limit) (name_of text) None t) ∙ named key text)
    (λ t. ap (λ o. is_text o (folded key)) (cond-false (nat_le (length text) name_limit) (name_of text) None t) ∙ sym (false_from_ne_true (is_named text key) (λ is.
    let long = leb-false (length text) name_limit t in
    let same_length = ap (length {A = ℕ}) (same-true key text (second (not (is_empty key)) (same key text) is)) in
    let first = length-map key to_ascii_lowercase in
    let other = length-map text to_ascii_lowercase in
    absurd (omega (arith, long, short, same_length, first, other)))))
    (cases_Bool (nat_le (length text) name_limit))
  where
    second : (a b : Bool) → (a && b) ≡ true → b ≡ true
    second true b e = e
    second false b e = absurd (both_ways false refl e)

    named : (key text : Text) → is_text (name_of text) (folded key) ≡ is_named text key
    named [] [] = refl
    named [] (b ∷ bs) = refl
    named (c ∷ cs) [] = refl
    named (c ∷ cs) (b ∷ bs) = refl

tests_keys : (names : ℕ → Option Text) (text : Text) (ids : List ℕ) (keys : List Text) → map names ids ≡ map name_of keys → map (has_text names (folded text)) ids ≡ map (is_named text) keys
tests_keys names text [] [] e = refl
tests_keys names text [] (k ∷ keys) e = absurd (omega (arith, ap (length {A = _}) e))
tests_keys names text (x ∷ ids) [] e = absurd (omega (arith, ap (length {A = _}) e))
tests_keys names text (x ∷ ids) (k ∷ keys) e =
    ap₂ (λ (b : Bool) (l : List Bool). b ∷ l) (ap (λ (o : Option Text). is_text o (folded text)) (heads e).0 ∙ passes text k) (tests_keys names text ids keys (heads e).1)

pub tests_crossrefs : (names : ℕ → Option Text) (key : Text) (ids : List ℕ) (crossrefs : List (Option Text)) → length key ≤ name_limit → map names ids ≡ map named_by crossrefs
    → map (has_text names (folded key)) ids ≡ map (refers key) crossrefs
tests_crossrefs names key [] [] short e = refl
tests_crossrefs names key [] (c ∷ crossrefs) short e = absurd (omega (arith, ap (length {A = _}) e))
tests_crossrefs names key (x ∷ ids) [] short e = absurd (omega (arith, ap (length {A = _}) e))
tests_crossrefs names key (x ∷ ids) (c ∷ crossrefs) short e =
    ap₂ (λ (b : Bool) (l : List Bool). b ∷ l) (ap (λ (o : Option Text). is_text o (folded key)) (heads e).0 ∙ passes_named key c short) (tests_crossrefs names key ids crossrefs short (heads e).1)

module _ {X : Type 0} (passes : X → Bool) where
  -- the numbers of those that pass, if the first of all has number b
  abbrev pub numbers_from : ℕ → List X → List ℕ
  numbers_from b xs = map (λ (p : ℕ × X). p.0) (filter (λ (p : ℕ × X). passes p.1) (enumerate_from b xs))

  -- the first of all is the first of them, if it passes
  pub numbered_first : (b : ℕ) (x : X) (xs : List X) → passes x ≡ true → numbers_from b (x ∷ xs) ≡ b ∷ numbers_from (b + 1) xs
  numbered_first b x xs t = ap (map (λ (p : ℕ × X). p.0)) (cond-true (passes x) ((b, x) ∷ filter (λ (p : ℕ × X). passes p.1) (enumerate_from (b + 1) xs)) (filter (λ (p : ℕ × X). passes p.1) (enumerate_from (b + 1) xs)) t)

  pub numbered_later : (b : ℕ) (x : X) (xs : List X) → passes x ≡ false → numbers_from b (x ∷ xs) ≡ numbers_from (b + 1) xs
  numbered_later b x xs t = ap (map (λ (p : ℕ × X). p.0)) (cond-false (passes x) ((b, x) ∷ filter (λ (p : ℕ × X). passes p.1) (enumerate_from (b + 1) xs)) (filter (λ (p : ℕ × X). passes p.1) (enumerate_from (b + 1) xs)) t)

-- the ids that pass, if they pass as their members do
module _ {X : Type 0} (test : ℕ → Bool) (passes : X → Bool) where
  lacks_holders : (ids : List ℕ) (id : ℕ) → Lacks ids id → Lacks (holders test ids) id
  lacks_holders [] id l = tt
  lacks_holders (x ∷ ids) id l = ⊎_elim
      (λ e. subst (λ (r : List ℕ). Lacks r id) (sym (cond-true (test x) (x ∷ holders test ids) (holders test ids) e)) (l.0, lacks_holders ids id l.1))
      (λ e. subst (λ (r : List ℕ). Lacks r id) (sym (cond-false (test x) (x ∷ holders test ids) (holders test ids) e)) (lacks_holders ids id l.1))
      (cases_Bool (test x))

  -- the id of one that passes stands at its number
  pub number_found : (b : ℕ) (ids : List ℕ) (xs : List X) (k n id : ℕ) → map test ids ≡ map passes xs → IsDistinct ids → slice_get ids n ≡ Some id → slice_get (holders test ids) k ≡ Some id
      → slice_get (numbers_from passes b xs) k ≡ Some (b + n)
  number_found b [] xs k n id e d at held = absurd (none-some id at)
  number_found b (y ∷ ids) [] k n id e d at held = absurd (omega (arith, ap (length {A = _}) e))
  number_found b (y ∷ ids) (x ∷ xs) k n id e d at held = ⊎_elim
      (λ t. ap (λ (l : List ℕ). slice_get l k) (numbered_first passes b x xs (sym (heads e).0 ∙ t))
      ∙ here (λ k n. number_found (b + 1) ids xs k n id (heads e).1 d.1) k n (ap (λ (l : List ℕ). slice_get l k) (sym (cond-true (test y) (y ∷ holders test ids) (holders test ids) t)) ∙ held) at)
      (λ t. ap (λ (l : List ℕ). slice_get l k) (numbered_later passes b x xs (sym (heads e).0 ∙ t))
      ∙ there (λ k n. number_found (b + 1) ids xs k n id (heads e).1 d.1) k n (ap (λ (l : List ℕ). slice_get l k) (sym (cond-false (test y) (y ∷ holders test ids) (holders test ids) t)) ∙ held) at)
      (cases_Bool (test y))
    where
      Others : Type 0
      Others = (k n : ℕ) → slice_get ids n ≡ Some id → slice_get (holders test ids) k ≡ Some id → slice_get (numbers_from passes (b + 1) xs) k ≡ Some (b + 1 + n)

      moved : (n : ℕ) → b + 1 + n ≡ b + suc n
      moved n = omega arith

      there : Others → (k n : ℕ) → slice_get (holders test ids) k ≡ Some id → slice_get (y ∷ ids) n ≡ Some id → slice_get (numbers_from passes (b + 1) xs) k ≡ Some (b + n)
      there others k zero held at = absurd (lacks_at (holders test ids) k id y (lacks_holders ids y d.0) held (sym (same_Some y id at)))
      there others k (suc n) held at = others k n at held ∙ ap Some (moved n)

      here : Others → (k n : ℕ) → slice_get (y ∷ holders test ids) k ≡ Some id → slice_get (y ∷ ids) n ≡ Some id → slice_get (b ∷ numbers_from passes (b + 1) xs) k ≡ Some (b + n)
      here others zero zero held at = ap Some (omega arith)
      here others zero (suc n) held at = absurd (lacks_at ids n id y d.0 at (sym (same_Some y id held)))
      here others (suc k) n held at = there others k n held at

  pub none_found : (b : ℕ) (ids : List ℕ) (xs : List X) (k : ℕ) → map test ids ≡ map passes xs → slice_get (holders test ids) k ≡ None → slice_get (numbers_from passes b xs) k ≡ None
  none_found b ids [] k e none = refl
  none_found b [] (x ∷ xs) k e none = absurd (omega (arith, ap (length {A = _}) e))
  none_found b (y ∷ ids) (x ∷ xs) k e none = ⊎_elim
      (λ t. ap (λ (l : List ℕ). slice_get l k) (numbered_first passes b x xs (sym (heads e).0 ∙ t))
      ∙ past (λ k. none_found (b + 1) ids xs k (heads e).1) k (ap (λ (l : List ℕ). slice_get l k) (sym (cond-true (test y) (y ∷ holders test ids) (holders test ids) t)) ∙ none))
      (λ t. ap (λ (l : List ℕ). slice_get l k) (numbered_later passes b x xs (sym (heads e).0 ∙ t))
      ∙ none_found (b + 1) ids xs k (heads e).1 (ap (λ (l : List ℕ). slice_get l k) (sym (cond-false (test y) (y ∷ holders test ids) (holders test ids) t)) ∙ none))
      (cases_Bool (test y))
    where
      past : ((k : ℕ) → slice_get (holders test ids) k ≡ None → slice_get (numbers_from passes (b + 1) xs) k ≡ None) → (k : ℕ) → slice_get (y ∷ holders test ids) k ≡ None → slice_get (b ∷ numbers_from passes (b + 1) xs) k ≡ None
      past others zero none = absurd (none-some y (sym none))
      past others (suc k) none = others k none

  -- an id that is in use is found at its number, and one that passes is in use
  pub position_found : (ids : List ℕ) (xs : List X) (k : ℕ) (found : Option ℕ) (id : ℕ) → map test ids ≡ map passes xs → IsDistinct ids → slice_get (holders test ids) k ≡ Some id
      → IfSome found (λ n. slice_get ids n ≡ Some id) → IfNone found (Lacks ids id) → found ≡ slice_get (numbers_from passes 0 xs) k
  position_found ids xs k None id e d held at none = absurd (lacks_at (holders test ids) k id id (lacks_holders ids id none) held refl)
  position_found ids xs k (Some n) id e d held at none = ap Some (sym (zero-add n)) ∙ sym (number_found 0 ids xs k n id e d at held)

  all_counted : (ids : List ℕ) (xs : List X) → map test ids ≡ map passes xs → length (holders test ids) ≡ count_by passes xs
  all_counted [] [] e = refl
  all_counted [] (x ∷ xs) e = absurd (omega (arith, ap (length {A = _}) e))
  all_counted (y ∷ ids) [] e = absurd (omega (arith, ap (length {A = _}) e))
  all_counted (y ∷ ids) (x ∷ xs) e = ⊎_elim
      (λ t. ap (length {A = ℕ}) (cond-true (test y) (y ∷ holders test ids) (holders test ids) t) ∙ ap suc (all_counted ids xs (heads e).1)
      ∙ one_more (count_by passes xs)
      ∙ sym (count-yes passes x xs (sym (heads e).0 ∙ t)))
      (λ t. ap (length {A = ℕ}) (cond-false (test y) (y ∷ holders test ids) (holders test ids) t) ∙ all_counted ids xs (heads e).1
      ∙ sym (count-no passes x xs (sym (heads e).0 ∙ t)))
      (cases_Bool (test y))
    where
      one_more : (n : ℕ) → suc n ≡ 1 + n
      one_more n = omega arith

-- the first key that a text names is the first of those that it names
first_numbered : (text : Text) (keys : List Text) → slice_get (numbers_from (is_named text) 0 keys) 0 ≡ first_named text keys
first_numbered text keys = at 0 keys ∙ shifted_none (first_named text keys)
  where
    shifted_none : (o : Option ℕ) → option_map (λ n. 0 + n) o ≡ o
    shifted_none None = refl
    shifted_none (Some n) = ap Some (zero-add n)

    next : (b : ℕ) (o : Option ℕ) → option_map (λ n. b + 1 + n) o ≡ option_map (λ n. b + n) (option_map suc o)
    next b None = refl
    next b (Some n) = ap Some (moved n)
      where
        moved : (n : ℕ) → b + 1 + n ≡ b + suc n
        moved n = omega arith

    at : (b : ℕ) (keys : List Text) → slice_get (numbers_from (is_named text) b keys) 0 ≡ option_map (λ n. b + n) (first_named text keys)
    at b [] = refl
    at b (k ∷ keys) = ⊎_elim
        (λ t. ap (λ (l : List ℕ). slice_get l 0) (numbered_first (is_named text) b k keys t) ∙ ap Some (zeroth b)
        ∙ sym (ap (option_map (λ n. b + n)) (cond-true (is_named text k) (Some 0) (option_map suc (first_named text keys)) t)))
        (λ t. ap (λ (l : List ℕ). slice_get l 0) (numbered_later (is_named text) b k keys t) ∙ at (b + 1) keys ∙ next b (first_named text keys)
        ∙ sym (ap (option_map (λ n. b + n)) (cond-false (is_named text k) (Some 0) (option_map suc (first_named text keys)) t)))
        (cases_Bool (is_named text k))
      where
        zeroth : (b : ℕ) → b ≡ b + 0
        zeroth b = omega arith

-- the entries that a key names, by their ids
module _ (key : Text) (keys : List Text) (crossrefs : List (Option Text)) (t : Kept) (is : IsTableOf keys crossrefs t) where
  abbrev has_key : ℕ → Bool
  has_key = has_text is.keyed.names (folded key)

  tests : map has_key t.ids ≡ map (is_named key) keys
  tests = let keyed = is.keyed in tests_keys keyed.names key t.ids keys keyed.named

  at_number : (k : ℕ) → slice_get (ids_in t.keys (folded key)) k ≡ slice_get (holders has_key t.ids) k
  at_number k = let keyed = is.keyed in ap (λ (ids : List ℕ). slice_get ids k) (keyed.index (folded key))

  pub nth_found : (k id : ℕ) (found : Option ℕ) → IsDistinct t.ids → slice_get (ids_in t.keys (folded key)) k ≡ Some id
      → IfSome found (λ n. slice_get t.ids n ≡ Some id) → IfNone found (Lacks t.ids id) → found ≡ slice_get (numbers_having key keys) k
  nth_found k id found distinct held at none = position_found has_key (is_named key) t.ids keys k found id tests distinct (sym (at_number k) ∙ held) at none

  pub none_nth : (k : ℕ) → slice_get (ids_in t.keys (folded key)) k ≡ None → None ≡ slice_get (numbers_having key keys) k
  none_nth k none = sym (none_found has_key (is_named key) 0 t.ids keys k tests (sym (at_number k) ∙ none))

  pub first_found : (id : ℕ) (found : Option ℕ) → IsDistinct t.ids → slice_get (ids_in t.keys (folded key)) 0 ≡ Some id
      → IfSome found (λ n. slice_get t.ids n ≡ Some id) → IfNone found (Lacks t.ids id) → found ≡ first_named key keys
  first_found id found distinct first at none = nth_found 0 id found distinct first at none ∙ first_numbered key keys

  pub none_first : slice_get (ids_in t.keys (folded key)) 0 ≡ None → None ≡ first_named key keys
  none_first none = none_nth 0 none ∙ first_numbered key keys

  pub holders_counted : length (ids_in t.keys (folded key)) ≡ count_by (is_named key) keys
  holders_counted = let keyed = is.keyed in ap (length {A = ℕ}) (keyed.index (folded key)) ∙ all_counted has_key (is_named key) t.ids keys tests

pub same_count : (keys : List Text) (crossrefs : List (Option Text)) (t : Kept) → IsTableOf keys crossrefs t → length t.ids ≡ length keys
same_count keys crossrefs t is = let keyed = is.keyed in sym (length-map t.ids keyed.names) ∙ ap (length {A = _}) keyed.named ∙ length-map keys name_of

pub same_length : (keys : List Text) (crossrefs : List (Option Text)) (t : Kept) → IsTableOf keys crossrefs t → length crossrefs ≡ length keys
same_length keys crossrefs t is = sym (ap (length {A = _}) is.said) ∙ length-map t.ids (crossref_of t.crossrefs) ∙ same_count keys crossrefs t is

-- an entry that is put in and taken out again leaves the table as it was
pub put_back : (keys : List Text) (crossrefs : List (Option Text)) (old with new : Kept) (n : ℕ) (key : Text) (crossref : Option Text) → n ≤ length keys → IsTableOf keys crossrefs old
    → IsTableOf (insert keys n key) (insert crossrefs n crossref) with
    → ((keys : List Text) (crossrefs : List (Option Text)) → slice_get keys n ≡ Some key → IsTableOf keys crossrefs with → IsTableOf (remove keys n) (remove crossrefs n) new)
    → IsTableOf keys crossrefs new
put_back keys crossrefs old with new n key crossref low t put take =
    subst (λ (ks : List Text). IsTableOf ks crossrefs new) (put_out keys n key low)
    (subst (λ (cs : List (Option Text)). IsTableOf (remove (insert keys n key) n) cs new) (put_out crossrefs n crossref (omega (arith, low, same_length keys crossrefs old t)))
    (take (insert keys n key) (insert crossrefs n crossref) (put_stands keys n key low) put))
