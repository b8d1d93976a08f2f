-- The items of a change before those of its window: which of them come, which go, and which stay with other trails.
use Rattle.bib_store.proofs.Words.{◌≡◌, ℕ, ◌+◌, ◌-◌, ◌≤◌, ◌<◌, ◌^◌, List, ◌++◌, length, take, drop, sym, subst, ◌∙◌, ap, ap₂, arith, append_assoc, length-append, take-append-drop, between, take_at, drop_at, drop-drop, take-take, drop-take, drop-append-le, Reading, Reads, all_stored, Change}
use Rattle.bib_store.proofs.Words.{Tables, Window, AreTablesOf, texts_at, IsFirm, bodies_between, AreOthersOf, HaveShortTexts, MayPass, MayPassBetween, AreFollowed, ArePut, HasLead, IsLead}
use Rattle.std.proofs.Common.{length-drop}
use Rattle.std.proofs.lemmas.List.{take-append-le, length-take-le}
use Rattle.bib_spec.specs.Reading as reading
use Rattle.bib_items.specs.declared.list.Item.{Item}
use Rattle.bib_store.proofs.KeptItems.{length-stored}
use Rattle.bib_store.proofs.KeptRuns.{bodies_in, parts_of, good_first, good_last, come_followed, come_back, followed_alike}

-- the first a + b elements are the first a, and b after them
take_sum : {X : Type 0} (a b : ℕ) (xs : List X) → take (a + b) xs ≡ take a xs ++ take b (drop a xs)
take_sum {X} a b xs =
    let low : a ≤ a + b = omega arith in
    sym (take-append-drop a (take (a + b) xs)) ∙ ap₂ (λ (x y : List X). x ++ y) (take-take a (a + b) xs low) (drop-take a b xs)

pub has_lead : (w : Window) (count lead : ℕ) (now : List Item) → IsLead w count lead now → HasLead w count lead
has_lead w count lead now is = record { come = is.come; go = is.go }

module _ (c : Change) (old now : List Item) (count lead : ℕ) (p : ArePut c old now count) (is : HasLead c.window count lead) (inner : Reading) (reads : Reads c.text inner) where
  abbrev from : ℕ
  from = c.window.from

  abbrev to : ℕ
  to = c.window.to

  abbrev new : List Item
  new = all_stored inner.items

  -- those that stay, as they were
  abbrev stay : List Item
  stay = take lead (drop from old)

  abbrev gone : List Item
  gone = between (from + lead) to old

  order : from ≤ to
  order = p.window.ordered

  within : to ≤ length old
  within = p.window.within

  low : lead ≤ count
  low = is.come

  high : from + lead ≤ to
  high = is.go

  pub put : now ≡ take from old ++ (new ++ drop from old)
  put = p.put inner reads

  pub long_new : length new ≡ count
  long_new = length-stored inner.items ∙ sym (p.counted inner reads)

  pub long_before : length (take from old) ≡ from
  long_before = let a = order in let b = within in length-take-le from old (omega (arith, a, b))

  pub long_stay : length stay ≡ lead
  long_stay = let a = high in let b = within in length-take-le lead (drop from old) (omega (arith, a, b, length-drop from old))

  pub long_gone : length gone ≡ to - (from + lead)
  long_gone = let a = high in let b = within in length-take-le (to - (from + lead)) (drop (from + lead) old) (omega (arith, a, b, length-drop (from + lead) old))

  pub long_now : length now ≡ length old + count
  long_now =
      let all = ap (length {A = Item}) put in
      let a = order in
      let b = within in
      omega (arith, all, a, b, long_new, long_before, length-append (take from old) (new ++ drop from old), length-append new (drop from old), length-drop from old)

  pub head_parts : take to old ≡ take from old ++ (stay ++ gone)
  head_parts =
      let a = high in
      let whole : to ≡ from + (lead + (to - (from + lead))) = omega (arith, a) in
      ap (λ (n : ℕ). take n old) whole
      ∙ take_sum from (lead + (to - (from + lead))) old
      ∙ ap (λ (l : List Item). take from old ++ l)
      (take_sum lead (to - (from + lead)) (drop from old) ∙ ap (λ (l : List Item). stay ++ take (to - (from + lead)) l) (drop-drop lead from old))

  -- ---- where they stand

  pub before_put : take from now ≡ take from old
  before_put = ap (take from) put ∙ take_at (take from old) (new ++ drop from old) from long_before

  from_put : drop from now ≡ new ++ drop from old
  from_put = ap (drop from) put ∙ drop_at (take from old) (new ++ drop from old) from long_before

  after_put : drop (from + count) now ≡ drop from old
  after_put = sym (drop-drop count from now) ∙ ap (drop count) from_put ∙ drop_at new (drop from old) count long_new

  pub again_put : between from (from + lead) now ≡ take lead new
  again_put =
      let size : from + lead - from ≡ lead = omega arith in
      let a = low in
      ap₂ (λ (n : ℕ) (l : List Item). take n l) size from_put ∙ take-append-le lead new (drop from old) (omega (arith, a, long_new))

  pub come_put : between (from + lead) (from + count) now ≡ drop lead new
  come_put =
      let a = low in
      ap (take (from + count - (from + lead))) (sym (drop-drop lead from now) ∙ ap (drop lead) from_put ∙ drop-append-le lead new (drop from old) (omega (arith, a, long_new)))
      ∙ take_at (drop lead new) (drop from old) (from + count - (from + lead)) (omega (arith, a, long_new, length-drop lead new))

  pub stay_put : between (from + count) (from + count + lead) now ≡ stay
  stay_put =
      let size : from + count + lead - (from + count) ≡ lead = omega arith in
      ap₂ (λ (n : ℕ) (l : List Item). take n l) size after_put

  -- those that go, where they stand after others
  pub gone_at : (items : List Item) (at end : ℕ) → drop at items ≡ drop from old → end ≡ at + (to - from) → between (at + lead) end items ≡ gone
  gone_at items at end same ends =
      let a = high in
      let size : end - (at + lead) ≡ to - (from + lead) = omega (arith, ends, a) in
      ap₂ (λ (n : ℕ) (l : List Item). take n l) size (sym (drop-drop lead at items) ∙ ap (drop lead) same ∙ drop-drop lead from old)

  pub gone_put : between (from + count + lead) (to + count) now ≡ gone
  gone_put = let a = order in gone_at now (from + count) (to + count) after_put (omega (arith, a))

  -- those of the lead have the bodies of those that stay
  same_bodies : IsLead c.window count lead now → bodies_in stay ≡ bodies_in (take lead new)
  same_bodies leads = ap bodies_in (sym stay_put) ∙ sym leads.same ∙ ap bodies_in again_put

  -- ---- the tables

  pub split_old : (rest : List Item) → take to old ++ rest ≡ take from old ++ (stay ++ (gone ++ rest))
  split_old rest = ap (λ (l : List Item). l ++ rest) head_parts ∙ append_assoc (take from old) (stay ++ gone) rest ∙ ap (λ (l : List Item). take from old ++ l) (append_assoc stay gone rest)

  module _ (leads : IsLead c.window count lead now) (t : Tables) (may : MayPassBetween t (from + lead) (from + count) now) (few : length now < 2 ^ 64) (rest : List Item) (room : length rest ≤ length old - to) (f : AreFollowed (take to old ++ rest) t) where
    old_parts : take to old ++ rest ≡ take from old ++ (stay ++ (gone ++ rest))
    old_parts = split_old rest

    parts : AreFollowed (take from old ++ (stay ++ (gone ++ rest))) t
    parts = subst (λ (l : List Item). AreFollowed l t) old_parts f

    short_enough : length (take from old) + (length inner.items + (length gone + length rest)) < 2 ^ 64
    short_enough = let a = high in let b = within in omega (arith, a, b, few, room, long_now, long_new, long_before, long_gone, length-stored inner.items)

    inside : length stay ≤ length inner.items
    inside = let a = low in omega (arith, a, long_stay, long_new, length-stored inner.items)

    place : from + lead ≡ length (take from old) + length stay
    place = omega (arith, long_before, long_stay)

    same_here : bodies_in stay ≡ bodies_in (take (length stay) new)
    same_here = same_bodies leads ∙ ap (λ (n : ℕ). bodies_in (take n new)) (sym long_stay)

    come_here : bodies_between (from + lead) (from + count) now ≡ bodies_in (drop (length stay) new)
    come_here = ap bodies_in come_put ∙ ap (λ (n : ℕ). bodies_in (drop n new)) (sym long_stay)

    pub inserted_followed : (learnt : Tables) → (IsFirm t → IsFirm learnt)
        → ((before new after : List reading.Item) → length before ≡ from + lead → MayPass t (bodies_between (from + lead) (from + count) now) new → from + lead + (length new + length after) < 2 ^ 64
        → AreTablesOf (before ++ after) t → AreTablesOf (before ++ (new ++ after)) learnt)
        → ((new : List reading.Item) → AreOthersOf (bodies_between (from + lead) (from + count) now) new → HaveShortTexts (texts_at t.definitions (from + lead)) new)
        → AreFollowed ((take from old ++ (new ++ gone)) ++ rest) learnt
    inserted_followed learnt firm add_to_tables short =
        subst (λ (l : List Item). AreFollowed l learnt) (simp append_assoc)
        (come_followed (take from old) stay gone rest inner.items (from + lead) t (bodies_between (from + lead) (from + count) now) parts reads.items inside place same_here come_here may short_enough learnt firm add_to_tables short)

    pub inserted_back : (back : Tables)
        → ((before new after : List reading.Item) → length before ≡ from + lead → MayPass t (bodies_between (from + lead) (from + count) now) new → from + lead + (length new + length after) < 2 ^ 64
        → AreTablesOf (before ++ after) t → AreTablesOf (before ++ after) back)
        → AreFollowed (take to old ++ rest) back
    inserted_back back same =
        subst (λ (l : List Item). AreFollowed l back) (sym old_parts)
        (come_back (take from old) stay gone rest inner.items (from + lead) t (bodies_between (from + lead) (from + count) now) parts reads.items inside place same_here come_here may short_enough back same)

  -- once those that came are gone, those that stay have their old trails again
  pub trails_back : IsLead c.window count lead now → (t back : Tables) (rest : List Item) → AreFollowed (take to old ++ rest) t → AreFollowed ((take from old ++ take lead new) ++ (gone ++ rest)) back → AreFollowed (take to old ++ rest) back
  trails_back leads t back rest f g =
      let split : take to old ++ rest ≡ take from old ++ (stay ++ (gone ++ rest)) = split_old rest in
      let old_items = sym split ∙ f.same in
      let a = parts_of (take from old) (stay ++ (gone ++ rest)) f.all old_items in
      let b = parts_of stay (gone ++ rest) a.last (sym a.last_is) in
      subst (λ (l : List Item). AreFollowed l back) (sym split)
      (followed_alike (take from old) (take lead new) stay (gone ++ rest) back b.first
      (subst (λ (l : List Item). AreFollowed l back) (append_assoc (take from old) (take lead new) (gone ++ rest)) g)
      b.first_is (good_first b.first b.last a.last b.whole (good_last a.first a.last f.all a.whole f.good)) (sym (same_bodies leads)))
