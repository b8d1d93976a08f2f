-- Distinct ids, and which of them are in use.
use Rattle.bib_order.proofs.Words.{◌≡◌, ◌≢◌, ℕ, ◌+◌, ◌-◌, ◌≤◌, ◌<◌, ◌^◌, suc, List, [], ◌∷◌, ◌++◌, length, take, drop, get_or, set, insert, remove, Some, refl, sym, subst, ◌∙◌, ap, ap₂, ⊎_elim, arith, take-append-drop, length-append, Result, Ok, Err, slice_get, AllByRecursion, get_or_append_left}
use Rattle.bib_order.proofs.Words.{none-some, slice_get-get_or, get_or_from_slice_get, joined, page_at, IsPlace, Lacks, IsDistinct, IsTold, IsOrdered, all_append, all_front, all_back, length-joined-more, read_at}
use Rattle.std.proofs.Common.{Option, None}
use Rattle.std.specs.Prelude.{IfOk, OnErr}
use Rattle.std.proofs.lemmas.Bool.{cases_eq}
use Rattle.std.proofs.lemmas.List.{drop_more, take_more, length-set, get_or-set_same, get_or-set_other}
use Rattle.std.proofs.lemmas.List.Edits.{length-insert, length-remove}
use Rattle.std.proofs.lemmas.Option.{slice_get_within}
use Rattle.bib_order.specs.Orders.{IsKnown}
use Rattle.bib_pages.proofs.Paging.{joined-more, joined-past, length-joined-split}

-- ---- in use

pub told_same : (homes : List (Option ℕ)) → IsTold homes homes
told_same homes = record { len = omega arith; known = λ id k. k }

pub told_on : (a b c : List (Option ℕ)) → IsTold a b → IsTold b c → IsTold a c
told_on a b c s t =
    let short : length a ≤ length b = s.len in
    let long : length b ≤ length c = t.len in
    record { len = omega arith; known = λ id k. t.known id (s.known id k) }

pub told_push : (homes : List (Option ℕ)) → IsTold homes (homes ++ None ∷ [])
told_push homes =
    let more = length-append homes (None ∷ []) in
    record {
      len = omega arith;
      known = λ id k.
          let within : id < length homes = k.within in
          record { within = omega arith; home = λ e. k.home (sym (get_or_append_left homes (None ∷ []) None id within) ∙ e) };
    }

pub some_home : (homes : List (Option ℕ)) (id name : ℕ) → id < length homes → IsKnown (set homes id (Some name)) id
some_home homes id name h =
    let same = length-set homes id (Some name) in
    record { within = omega arith; home = λ e. none-some name (sym e ∙ get_or-set_same homes id (Some name) None h) }

pub told_set : (homes : List (Option ℕ)) (id name : ℕ) → id < length homes → IsTold homes (set homes id (Some name))
told_set homes id name h =
    let same = length-set homes id (Some name) in
    record {
      len = omega arith;
      known = λ other k. ⊎_elim
          (λ (e : other ≡ id). subst (IsKnown (set homes id (Some name))) (sym e) (some_home homes id name h))
          (λ (e : other ≢ id).
          let within : other < length homes = k.within in
          record { within = omega arith; home = λ z. k.home (sym (get_or-set_other homes id other (Some name) None e) ∙ z) })
          (cases_eq other id);
    }

pub all_told : (old new : List (Option ℕ)) (ids : List ℕ) → IsTold old new → AllByRecursion (IsKnown old) ids → AllByRecursion (IsKnown new) ids
all_told old new [] t k = tt
all_told old new (id ∷ ids) t k = (t.known id k.0, all_told old new ids t k.1)

-- an id that is not in use stands nowhere
pub unused_lacks : (homes : List (Option ℕ)) (ids : List ℕ) (id : ℕ) → get_or homes id None ≡ None → AllByRecursion (IsKnown homes) ids → Lacks ids id
unused_lacks homes [] id e k = tt
unused_lacks homes (other ∷ ids) id e k = (λ same. k.0.home (ap (λ (n : ℕ). get_or homes n None) same ∙ e), unused_lacks homes ids id e k.1)

pub past_lacks : (homes : List (Option ℕ)) (ids : List ℕ) (id : ℕ) → length homes ≤ id → AllByRecursion (IsKnown homes) ids → Lacks ids id
past_lacks homes [] id h k = tt
past_lacks homes (other ∷ ids) id h k =
    let known : IsKnown homes other = k.0 in
    let within : other < length homes = known.within in
    (λ same. absurd (omega (arith, same)), past_lacks homes ids id h k.1)

-- the others stay in use when one goes out of it
pub others_known : (homes : List (Option ℕ)) (ids : List ℕ) (id : ℕ) → Lacks ids id → AllByRecursion (IsKnown homes) ids → AllByRecursion (IsKnown (set homes id None)) ids
others_known homes [] id l k = tt
others_known homes (other ∷ ids) id l k =
    let known : IsKnown homes other = k.0 in
    let within : other < length homes = known.within in
    let same = length-set homes id None in
    (record { within = omega arith; home = λ z. known.home (sym (get_or-set_other homes id other None None l.0) ∙ z) }, others_known homes ids id l.1 k.1)

-- ---- distinct

pub lacks_more : (ids : List ℕ) (k id : ℕ) → k < length ids → get_or ids k 0 ≢ id → Lacks (take k ids) id → Lacks (take (k + 1) ids) id
lacks_more ids k id h other l =
    subst (λ (xs : List ℕ). Lacks xs id) (sym (take_more ids k 0 h)) (all_append (λ (x : ℕ). x ≢ id) (take k ids) (get_or ids k 0 ∷ []) l (other, tt))

pub lacks_append : (a b : List ℕ) (id : ℕ) → Lacks a id → Lacks b id → Lacks (a ++ b) id
lacks_append a b id l m = all_append (λ (x : ℕ). x ≢ id) a b l m

distinct_put : (a b : List ℕ) (id : ℕ) → IsDistinct (a ++ b) → Lacks (a ++ b) id → IsDistinct (a ++ id ∷ b)
distinct_put [] b id d l = (l, d)
distinct_put (x ∷ a) b id d l =
    let front = all_front (λ (y : ℕ). y ≢ x) a b d.0 in
    let back = all_back (λ (y : ℕ). y ≢ x) a b d.0 in
    (all_append (λ (y : ℕ). y ≢ x) a (id ∷ b) front (λ e. l.0 (sym e), back), distinct_put a b id d.1 l.1)

record IsOut (a b : List ℕ) (id : ℕ) : Type 0 where
  distinct : IsDistinct (a ++ b)
  lacks : Lacks (a ++ b) id

distinct_out : (a b : List ℕ) (id : ℕ) → IsDistinct (a ++ id ∷ b) → IsOut a b id
distinct_out [] b id d = record { distinct = d.1; lacks = d.0 }
distinct_out (x ∷ a) b id d =
    let rest = distinct_out a b id d.1 in
    let front = all_front (λ (y : ℕ). y ≢ x) a (id ∷ b) d.0 in
    let back = all_back (λ (y : ℕ). y ≢ x) a (id ∷ b) d.0 in
    record {
      distinct = (all_append (λ (y : ℕ). y ≢ x) a b front back.1, rest.distinct);
      lacks = (λ e. back.0 (sym e), rest.lacks);
    }

pub distinct_insert : (ids : List ℕ) (n id : ℕ) → IsDistinct ids → Lacks ids id → IsDistinct (insert ids n id)
distinct_insert ids n id d l =
    let whole = take-append-drop n ids in
    distinct_put (take n ids) (drop n ids) id (subst IsDistinct (sym whole) d) (subst (λ (r : List ℕ). Lacks r id) (sym whole) l)

-- the ids are distinct after a new id is inserted, or nothing changes
pub put_or_same : {E : Type 0} (r : Result ℕ E) (old new : List ℕ) (n : ℕ) → IsDistinct old → IfOk r (λ id. (new ≡ insert old n id) × Lacks old id) → OnErr r (new ≡ old) → IsDistinct new
put_or_same (Ok id) old new n d ok err = subst IsDistinct (sym ok.0) (distinct_insert old n id d ok.1)
put_or_same (Err e) old new n d ok err = subst IsDistinct (sym err) d

pub split_ids : (ids : List ℕ) (n id : ℕ) → n < length ids → id ≡ get_or ids n 0 → ids ≡ take n ids ++ id ∷ drop (suc n) ids
split_ids ids n id h e =
    let next : n + 1 ≡ suc n = omega arith in
    sym (take-append-drop n ids) ∙ ap (λ (l : List ℕ). take n ids ++ l) (drop_more ids n 0 h ∙ ap₂ (λ (x m : ℕ). x ∷ drop m ids) (sym e) next)

pub distinct_remove : (ids : List ℕ) (n : ℕ) → IsDistinct ids → n < length ids → IsDistinct (remove ids n)
distinct_remove ids n d h = (distinct_out (take n ids) (drop (suc n) ids) (get_or ids n 0) (subst IsDistinct (split_ids ids n (get_or ids n 0) h refl) d)).distinct

-- ---- an id more, and one less

-- nothing is changed in the order
pub ordered_still : (sheets new : List (List ℕ)) (homes now : List (Option ℕ)) (count : ℕ) → IsOrdered sheets homes count → joined new ≡ joined sheets → IsTold homes now
    → IsOrdered new now count
ordered_still sheets new homes now count o same told = record {
  count_is = o.count_is ∙ ap (length {A = ℕ}) (sym same);
  fits = o.fits;
  distinct = subst IsDistinct (sym same) o.distinct;
  known = subst (AllByRecursion (IsKnown now)) (sym same) (all_told homes now (joined sheets) told o.known);
}

pub ordered_insert : (sheets new : List (List ℕ)) (homes now later : List (Option ℕ)) (count n id name : ℕ) → IsOrdered sheets homes count → Lacks (joined sheets) id → IsTold homes now → id < length now → IsTold now later
    → n ≤ length (joined sheets) → count + 1 < 2 ^ 64 → joined new ≡ insert (joined sheets) n id → IsOrdered new (set later id (Some name)) (count + 1)
ordered_insert sheets new homes now later count n id name o lacks told inside next h fits is =
    let ids = joined sheets in
    let counted : count ≡ length ids = o.count_is in
    let whole = take-append-drop n ids in
    let room : length now ≤ length later = next.len in
    let within : id < length later = omega arith in
    let all = all_told homes (set later id (Some name)) ids (told_on homes now (set later id (Some name)) told (told_on now later (set later id (Some name)) next (told_set later id name within))) o.known in
    let split = subst (AllByRecursion (IsKnown (set later id (Some name)))) (sym whole) all in
    record {
      count_is = omega (arith, ap (length {A = ℕ}) is, length-insert ids n id h);
      fits = fits;
      distinct = subst IsDistinct (sym is) (distinct_insert ids n id o.distinct lacks);
      known = subst (AllByRecursion (IsKnown (set later id (Some name)))) (sym is)
          (all_append (IsKnown (set later id (Some name))) (take n ids) (id ∷ drop n ids) (all_front (IsKnown (set later id (Some name))) (take n ids) (drop n ids) split)
          (some_home later id name within, all_back (IsKnown (set later id (Some name))) (take n ids) (drop n ids) split));
    }

-- an id of the order is in use
pub id_known : (sheets : List (List ℕ)) (homes : List (Option ℕ)) (count n id : ℕ) → IsOrdered sheets homes count → n < length (joined sheets) → id ≡ get_or (joined sheets) n 0 → IsKnown homes id
id_known sheets homes count n id o h e =
    let ids = joined sheets in
    let split = subst (AllByRecursion (IsKnown homes)) (split_ids ids n id h e) o.known in
    (all_back (IsKnown homes) (take n ids) (id ∷ drop (suc n) ids) split).0

pub ordered_remove : (sheets new : List (List ℕ)) (homes : List (Option ℕ)) (count n id : ℕ) → IsOrdered sheets homes count → n < length (joined sheets) → id ≡ get_or (joined sheets) n 0
    → joined new ≡ remove (joined sheets) n → IsOrdered new (set homes id None) (count - 1)
ordered_remove sheets new homes count n id o h e is =
    let ids = joined sheets in
    let counted : count ≡ length ids = o.count_is in
    let fits : count < 2 ^ 64 = o.fits in
    let whole = split_ids ids n id h e in
    let out = distinct_out (take n ids) (drop (suc n) ids) id (subst IsDistinct whole o.distinct) in
    let split = subst (AllByRecursion (IsKnown homes)) whole o.known in
    let rest : AllByRecursion (IsKnown homes) (remove ids n) = all_append (IsKnown homes) (take n ids) (drop (suc n) ids) (all_front (IsKnown homes) (take n ids) (id ∷ drop (suc n) ids) split)
    ((all_back (IsKnown homes) (take n ids) (id ∷ drop (suc n) ids) split).1) in
    record {
      count_is = omega (arith, ap (length {A = ℕ}) is, length-remove ids n h);
      fits = omega arith;
      distinct = subst IsDistinct (sym is) out.distinct;
      known = subst (AllByRecursion (IsKnown (set homes id None))) (sym is) (others_known homes (remove ids n) id out.lacks rest);
    }

-- ---- a search

-- the first pages are searched
pub record IsSearched (sheets : List (List ℕ)) (name : Option ℕ) (id p before : ℕ) : Type 0 where
  pub before_is : before ≡ length (joined (take p sheets))
  pub lacks : name ≡ None → Lacks (joined (take p sheets)) id

pub searched_more : (sheets : List (List ℕ)) (name : Option ℕ) (id p before len : ℕ) → p < length sheets → len ≡ length (page_at sheets p) → (name ≡ None → Lacks (page_at sheets p) id)
    → IsSearched sheets name id p before → IsSearched sheets name id (p + 1) (before + len)
searched_more sheets name id p before len h e none s =
    let b : before ≡ length (joined (take p sheets)) = s.before_is in
    record {
      before_is = omega (arith, length-joined-more sheets p h);
      lacks = λ any. subst (λ (l : List ℕ). Lacks l id) (sym (joined-more sheets p h)) (lacks_append (joined (take p sheets)) (page_at sheets p) id (s.lacks any) (none any));
    }

-- the id, which was found in a page, is number n of all ids
pub record IsFoundAt (ids : List ℕ) (id n : ℕ) : Type 0 where
  pub within : n < length ids
  pub found : slice_get ids n ≡ Some id

pub searched_found : (sheets : List (List ℕ)) (name : Option ℕ) (id p before k : ℕ) → p < length sheets → slice_get (page_at sheets p) k ≡ Some id → IsSearched sheets name id p before
    → IsFoundAt (joined sheets) id (before + k)
searched_found sheets name id p before k h e s =
    let page = page_at sheets p in
    let b : before ≡ length (joined (take p sheets)) = s.before_is in
    let inside : k < length page = slice_get_within page k id e in
    let place : IsPlace sheets (before + k) p k = record { page = h; within = inside; at = omega arith } in
    let within : before + k < length (joined sheets) = omega (arith, length-joined-split sheets p h) in
    record {
      within = within;
      found = slice_get-get_or (joined sheets) (before + k) 0 within
          ∙ ap (λ (x : ℕ). Some x) (read_at sheets (before + k) p k 0 place ∙ get_or_from_slice_get page k id 0 e);
    }

pub searched_all : (sheets : List (List ℕ)) (name : Option ℕ) (id p before : ℕ) → length sheets ≤ p → IsSearched sheets name id p before → name ≡ None → Lacks (joined sheets) id
searched_all sheets name id p before h s any = subst (λ (l : List ℕ). Lacks l id) (joined-past sheets p h) (s.lacks any)
