-- A change whose first item comes and goes, and whose other items each replace one of their kind.
use Rattle.bib_store.proofs.Words.{◌≡◌, ℕ, ◌+◌, ◌-◌, ◌≤◌, ◌<◌, ◌^◌, List, ◌++◌, length, take, drop, None, inr, refl, sym, subst, ◌∙◌, ap, arith, append_assoc, length-append, take-append-drop, between, drop-drop, take-map, drop-map, take-take, All-take, All-drop, name_limit, Text, Reading, Reads}
use Rattle.bib_store.proofs.Words.{IsItem, months, too_long_at, stored, all_stored, Change, Tables, AreTables, AreTablesOf, IsFirm, bodies_between, AreItemsOf, MayPass, TakePlaces, IsKeptAs, ArePut, HasLead, joined}
use Rattle.std.proofs.Common.{length-drop, All}
use Rattle.std.proofs.lemmas.List.{length-take-le}
use Rattle.bib_spec.specs.Reading as reading
use Rattle.bib_items.specs.declared.list.Item.{Item}
use Rattle.bib_store.proofs.Appended.{fit_alike}
use Rattle.bib_store.proofs.InsertedRuns.{again_put, come_put, stay_put, gone_put, long_now, long_new}
use Rattle.bib_store.proofs.FirmTables.{firm_short}
use Rattle.bib_store.proofs.Followed.{between_later}
use Rattle.bib_store.proofs.FollowedFiles.{bodies-stored}
use Rattle.bib_store.proofs.KeptItems.{count_kept, trees_good, length-stored}
use Rattle.bib_store.proofs.KeptRuns.{bodies_in}

-- items of a reading have the bodies that are stored of them
stored_items : (bodies : List Text) (items : List reading.Item) → All (IsItem name_limit) items → bodies ≡ bodies_in (all_stored items) → AreItemsOf bodies items
stored_items bodies items good same = record { trees = trees_good items good; same = sym (bodies-stored items) ∙ sym same }

module _ (c : Change) (old now : List Item) (count : ℕ) (put : ArePut c old now count) (some : 0 < count) (one_for_one : c.window.to - c.window.from ≡ count) (few : length now < 2 ^ 64)
    (inner : Reading) (reads : Reads c.text inner) (front : Text) (db : Reading) (t : Tables) (k : IsKeptAs db front old t) (firm : IsFirm t) where
  abbrev from : ℕ
  from = c.window.from

  abbrev to : ℕ
  to = c.window.to

  abbrev before : List reading.Item
  before = take from db.items

  abbrev gone : List reading.Item
  gone = between from to db.items

  abbrev after : List reading.Item
  after = drop to db.items

  -- the first that goes, and the others; the first that comes, and the others
  abbrev old_first : List reading.Item
  old_first = take 1 gone

  abbrev old_others : List reading.Item
  old_others = drop 1 gone

  abbrev new_first : List reading.Item
  new_first = take 1 inner.items

  abbrev new_others : List reading.Item
  new_others = drop 1 inner.items

  order : from ≤ to
  order = put.window.ordered

  within : to ≤ length old
  within = put.window.within

  has_lead : HasLead c.window count 1
  has_lead = let a = order in record { come = omega (arith, some); go = omega (arith, some, one_for_one, a) }

  counted : length db.items ≡ length old
  counted = sym (count_kept db front old t k)

  long_before : length before ≡ from
  long_before = let a = order in let b = within in length-take-le from db.items (omega (arith, a, b, counted))

  long_gone : length gone ≡ count
  long_gone = let a = order in let b = within in length-take-le (to - from) (drop from db.items) (omega (arith, a, b, counted, length-drop from db.items)) ∙ one_for_one

  long_old_first : length old_first ≡ 1
  long_old_first = length-take-le 1 gone (omega (arith, some, long_gone))

  long_inner : length inner.items ≡ count
  long_inner = sym (length-stored inner.items) ∙ long_new c old now count 1 put has_lead inner reads

  long_new_first : length new_first ≡ 1
  long_new_first = length-take-le 1 inner.items (omega (arith, some, long_inner))

  -- ---- the file, in parts

  gone_parts : gone ≡ old_first ++ old_others
  gone_parts = sym (take-append-drop 1 gone)

  parts : db.items ≡ before ++ (gone ++ after)
  parts =
      let a = order in
      let whole : from + (to - from) ≡ to = omega (arith, a) in
      sym (take-append-drop from db.items)
      ∙ ap (λ (l : List reading.Item). before ++ l)
      (sym (take-append-drop (to - from) (drop from db.items)) ∙ ap (λ (l : List reading.Item). gone ++ l) (drop-drop (to - from) from db.items ∙ ap (λ (n : ℕ). drop n db.items) whole))

  all_parts : db.items ≡ before ++ (old_first ++ (old_others ++ after))
  all_parts = parts ∙ ap (λ (l : List reading.Item). before ++ (l ++ after)) gone_parts ∙ ap (λ (l : List reading.Item). before ++ l) (append_assoc old_first old_others after)

  long_all : length before + (length gone + length after) ≡ length old
  long_all = sym (ap (length {A = reading.Item}) parts ∙ length-append before (gone ++ after) ∙ ap (λ (n : ℕ). length before + n) (length-append gone after)) ∙ counted

  gone_good : All (IsItem name_limit) gone
  gone_good = All-take (IsItem name_limit) (to - from) (drop from db.items) (All-drop (IsItem name_limit) from db.items k.opens.reads.items)

  -- ---- their bodies, where they stand in the list

  gone_stored : between from to old ≡ all_stored gone
  gone_stored = ap (between from to) k.items ∙ ap (take (to - from)) (drop-map stored from db.items) ∙ take-map stored (to - from) (drop from db.items)

  -- the first of those that go
  old_first_items : AreItemsOf (bodies_between (from + count) (from + count + 1) now) old_first
  old_first_items =
      let a = some in
      let low : 1 ≤ to - from = omega (arith, one_for_one, a) in
      stored_items _ old_first (All-take (IsItem name_limit) 1 gone gone_good)
      (ap bodies_in (stay_put c old now count 1 put has_lead inner reads ∙ sym (take-take 1 (to - from) (drop from old) low) ∙ ap (take 1) gone_stored ∙ take-map stored 1 gone))

  -- the others
  old_others_items : AreItemsOf (bodies_between (from + count + 1) (to + count) now) old_others
  old_others_items =
      let a = some in
      let o = order in
      let low : from + 1 ≤ to = omega (arith, one_for_one, a, o) in
      stored_items _ old_others (All-drop (IsItem name_limit) 1 gone gone_good)
      (ap bodies_in (gone_put c old now count 1 put has_lead inner reads)
      ∙ between_later old from to 1 low
      ∙ ap (λ (l : List Item). drop 1 (bodies_in l)) gone_stored
      ∙ drop-map (λ (i : Item). i.body) 1 (all_stored gone)
      ∙ ap bodies_in (drop-map stored 1 gone))

  -- the first of those that come
  new_first_items : AreItemsOf (bodies_between from (from + 1) now) new_first
  new_first_items =
      stored_items _ new_first (All-take (IsItem name_limit) 1 inner.items reads.items)
      (ap bodies_in (again_put c old now count 1 put has_lead inner reads ∙ take-map stored 1 inner.items))

  -- the others
  pub new_others_items : AreItemsOf (bodies_between (from + 1) (from + count) now) new_others
  new_others_items =
      stored_items _ new_others (All-drop (IsItem name_limit) 1 inner.items reads.items)
      (ap bodies_in (come_put c old now count 1 put has_lead inner reads ∙ drop-map stored 1 inner.items))

  pub new_others_good : All (IsItem name_limit) new_others
  new_others_good = All-drop (IsItem name_limit) 1 inner.items reads.items

  new_pass : (u : Tables) → IsFirm u → MayPass u (bodies_between from (from + 1) now) new_first
  new_pass u still = record { are = new_first_items; may = inr still }

  old_pass : (u : Tables) → IsFirm u → MayPass u (bodies_between (from + count) (from + count + 1) now) old_first
  old_pass u still = record { are = old_first_items; may = inr still }

  -- ---- the tables

  abbrev Learns : Tables → Type 0
  Learns u = (first new last : List reading.Item) → length first ≡ from → MayPass t (bodies_between from (from + 1) now) new → from + (length new + length last) < 2 ^ 64
      → AreTablesOf (first ++ last) t → AreTablesOf (first ++ (new ++ last)) u

  abbrev Forgets : ℕ → ℕ → ℕ → Tables → Tables → Type 0
  Forgets at low high u v = (first gone last : List reading.Item) → length first ≡ at → MayPass u (bodies_between low high now) gone → at + (length gone + length last) < 2 ^ 64
      → AreTablesOf (first ++ (gone ++ last)) u → AreTablesOf (first ++ last) v

  long_now_is : length now ≡ length old + count
  long_now_is = long_now c old now count 1 put has_lead inner reads

  abbrev last : List reading.Item
  last = old_first ++ (old_others ++ after)

  long_last : length last ≡ length gone + length after
  long_last =
      length-append old_first (old_others ++ after)
      ∙ ap (λ (n : ℕ). length old_first + n) (length-append old_others after)
      ∙ omega (arith, ap (length {A = reading.Item}) gone_parts, length-append old_first old_others)

  -- the new first item comes
  first_comes : (u : Tables) → Learns u → AreTablesOf (before ++ (new_first ++ last)) u
  first_comes u learns =
      let a = some in
      learns before new_first last long_before (new_pass t firm) (omega (arith, few, long_now_is, long_all, long_before, long_last, long_new_first, a)) (subst (λ (l : List reading.Item). AreTablesOf l t) all_parts k.tables)

  -- it goes again
  pub first_back : (u again v : Tables) → again ≡ u → Learns u → (IsFirm t → IsFirm u) → Forgets from from (from + 1) again v → AreTables db v
  first_back u again v same learns still forgets =
      let a = some in
      subst (λ (l : List reading.Item). AreTablesOf l v) (sym all_parts)
      (forgets before new_first last long_before (new_pass again (subst IsFirm (sym same) (still firm))) (omega (arith, few, long_now_is, long_all, long_before, long_last, long_new_first, a))
      (subst (λ (x : Tables). AreTablesOf (before ++ (new_first ++ last)) x) (sym same) (first_comes u learns)))

  -- it was not taken
  pub first_refused : (u : Tables) → ((first new last : List reading.Item) → length first ≡ from → MayPass t (bodies_between from (from + 1) now) new → from + (length new + length last) < 2 ^ 64
      → AreTablesOf (first ++ last) t → AreTablesOf (first ++ last) u) → AreTables db u
  first_refused u same =
      let a = some in
      subst (λ (l : List reading.Item). AreTablesOf l u) (sym all_parts)
      (same before new_first last long_before (new_pass t firm) (omega (arith, few, long_now_is, long_all, long_before, long_last, long_new_first, a)) (subst (λ (l : List reading.Item). AreTablesOf l t) all_parts k.tables))

  -- the others take places, and the old first item goes
  module _ (u v w : Tables) (learns : Learns u) (placed : TakePlaces (from + 2) (bodies_between (from + count + 1) (to + count) now) new_others u v) (still : IsFirm v) (forgets : Forgets (from + 1) (from + count) (from + count + 1) v w) where
    abbrev head : List reading.Item
    head = before ++ new_first

    long_head : length head ≡ from + 1
    long_head = length-append before new_first ∙ omega (arith, long_before, long_new_first)

    long_two : length (head ++ old_first) ≡ from + 2
    long_two = length-append head old_first ∙ omega (arith, long_head, long_old_first)

    all_placed : AreTablesOf ((head ++ old_first) ++ (new_others ++ after)) v
    all_placed =
        placed.tables (head ++ old_first) old_others after long_two old_others_items
        (subst (λ (l : List reading.Item). AreTablesOf l u) (simp append_assoc) (first_comes u learns))

    long_left : length (new_others ++ after) ≡ count - 1 + length after
    long_left = length-append new_others after ∙ omega (arith, length-drop 1 inner.items, long_inner)

    pub all_gone : AreTablesOf (joined c.window db inner).items w
    all_gone =
        let a = some in
        subst (λ (l : List reading.Item). AreTablesOf l w)
        (append_assoc before new_first (new_others ++ after)
        ∙ ap (λ (l : List reading.Item). before ++ l) (sym (append_assoc new_first new_others after) ∙ ap (λ (l : List reading.Item). l ++ after) (take-append-drop 1 inner.items)))
        (forgets head old_first (new_others ++ after) long_head (old_pass v still)
        (omega (arith, few, long_now_is, long_all, long_before, long_gone, long_left, long_old_first, a))
        (subst (λ (l : List reading.Item). AreTablesOf l v) (append_assoc head old_first (new_others ++ after)) all_placed))

    pub all_fit : IsFirm w → All (IsItem name_limit) (joined c.window db inner).items → too_long_at (joined c.window db inner) ≡ None
    all_fit firm_then good =
        let all : List reading.Item = (joined c.window db inner).items in
        fit_alike 0 (length (joined c.window db inner).front) months all all refl (firm_short w firm_then all good all_gone)
