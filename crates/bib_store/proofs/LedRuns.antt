-- Runs of pieces: the last run is inserted first and removed last.
use Rattle.bib_store.proofs.Words.{◌≡◌, ℕ, ◌+◌, ◌-◌, ◌≤◌, Bool, false, List, [], ◌∷◌, ◌++◌, length, take, drop, refl, sym, subst, ◌∙◌, ap, ap₂, arith, append_assoc, length-append, take-append-drop, between, flat_map, take_at, drop_at, drop-drop, drop-append-le, take-take, drop-take, Text, Reading}
use Rattle.bib_store.proofs.Words.{Reads, item_bytes, Piece, Fit, applied, kept_bytes, all_stored, without_range, Change, Tables, IsFirm, AreItemsOf, MayPassBetween, IsRunChange, AreFollowed, StayFollowed, LeadWithin, all_moved_back, FitAfter, file_of, IsWindow, front_before, front_within}
use Rattle.bib_store.proofs.Words.{bytes_before, bytes_within, bytes_after}
use Rattle.std.proofs.Common.{length-drop}
use Rattle.std.proofs.lemmas.List.{take_all, append-nil, length-take-le}
use Rattle.std.proofs.lemmas.List.Concat.{flat_map-append}
use Rattle.bib_items.specs.declared.list.Item.{Item}
use Rattle.bib_store.specs.Runs.{AreInserted, FollowInserted, ComesBack}
use Rattle.bib_store.proofs.InsertedRuns as inserted_in
use Rattle.bib_store.proofs.InsertedRuns.{long_new, long_before, long_gone, long_now, before_put, come_put, gone_at, gone_put}
use Rattle.bib_store.proofs.FollowedFiles.{still_pass}
use Rattle.bib_store.proofs.KeptItems.{bytes-stored}
use Rattle.bib_store.proofs.KeptRuns.{bodies_in}
use Rattle.bib_store.proofs.RunPieces.{both_fit, both_applied}
use Rattle.bib_store.proofs.WindowLaws.{file-around}

-- between two numbers among the first n stands what stands between them among all
pub between-first : (items : List Item) (from to n : ℕ) → from ≤ to → to ≤ n → between from to (take n items) ≡ between from to items
between-first items from to n order within =
    let whole : from + (n - from) ≡ n = omega arith in
    let low : to - from ≤ n - from = omega arith in
    ap (λ m. take (to - from) (drop from (take m items))) (sym whole)
    ∙ ap (take (to - from)) (drop-take from (n - from) items)
    ∙ take-take (to - from) (n - from) (drop from items) low

-- an empty list of pieces leads from what is there to itself
pub none_lead : (ps : List Piece) (front : Text) (n : ℕ) (items : List Item) (t : Tables) → length ps ≡ 0 → LeadWithin ps n front items t front items t
none_lead [] front n items t none = record {
  first = take n items;
  stay = sym (take-append-drop n items);
  clean = λ clean. clean;
  fit = record { ascending = tt; standing = tt };
  made = refl;
  followed = λ rest room f. f;
}
none_lead (p ∷ ps) front n items t none = absurd (omega (arith, none))

-- among all items, they lead from the file to the file, which the tables follow
pub all_led : (ps : List Piece) (front new_front : Text) (n : ℕ) (old new : List Item) (t new_t : Tables) → n ≡ length old → LeadWithin ps n front old t new_front new new_t
    → Fit ps (file_of front old) × (file_of new_front new ≡ applied ps (file_of front old)) × (AreFollowed old t → AreFollowed new new_t)
all_led ps front new_front n old new t new_t e led =
    let all : take n old ≡ old = ap (λ m. take m old) e ∙ take_whole old in
    let none : drop n old ≡ [] = ap (λ m. drop m old) e ∙ drop_whole old in
    let new_is : new ≡ led.first = led.stay ∙ ap (λ l. led.first ++ l) none ∙ append-nil led.first in (
      subst (λ (l : List Item). Fit ps (file_of front l)) all led.fit,
      ap (file_of new_front) new_is ∙ led.made ∙ ap (λ l. applied ps (file_of front l)) all,
      λ f. subst (λ (l : List Item). AreFollowed l new_t) (append-nil led.first ∙ sym new_is)
          (led.followed [] (omega arith) (subst (λ (l : List Item). AreFollowed l t) (sym (append-nil (take n old) ∙ all)) f)),
    )
  where
    take_whole : (items : List Item) → take (length items) items ≡ items
    take_whole [] = refl
    take_whole (i ∷ items) = ap (λ l. i ∷ l) (take_whole items)

    drop_whole : (items : List Item) → drop (length items) items ≡ []
    drop_whole [] = refl
    drop_whole (i ∷ items) = drop_whole items

-- refused, the tables follow what is there still
pub all_back : (n : ℕ) (old : List Item) (t new_t : Tables) → n ≡ length old → StayFollowed (length old - n) (take n old) t (take n old) new_t → AreFollowed old t → AreFollowed old new_t
all_back n old t new_t e back f =
    let all : take n old ++ [] ≡ old = append-nil (take n old) ∙ ap (λ m. take m old) e ∙ take_all (length old) old (omega arith) in
    subst (λ (l : List Item). AreFollowed l new_t) all (back [] (omega arith) (subst (λ (l : List Item). AreFollowed l t) (sym all) f))

-- tables that still follow the first items, with any others after them, still follow more of the first
pub longer_back : (old : List Item) (t u : Tables) (to n : ℕ) → to ≤ n → n ≤ length old → StayFollowed (length old - to) (take to old) t (take to old) u → StayFollowed (length old - n) (take n old) t (take n old) u
longer_back old t u to n order within back rest room f =
    let prefix : List Item = take n old in
    let after : List Item = drop to prefix ++ rest in
    let whole : prefix ++ rest ≡ take to old ++ after
    = ap (λ (l : List Item). l ++ rest) (sym (take-append-drop to prefix) ∙ ap (λ (l : List Item). l ++ drop to prefix) (take-take to n old order)) ∙ append_assoc (take to old) (drop to prefix) rest in
    let long_prefix : length prefix ≡ n = length-take-le n old within in
    let most : length after ≤ length old - to = omega (arith, order, room, within, long_prefix, length-append (drop to prefix) rest, length-drop to prefix) in
    subst (λ (l : List Item). AreFollowed l u) (sym whole) (back after most (subst (λ (l : List Item). AreFollowed l t) whole f))

-- ---- a run, and those before it

module _ (front new_front : Text) (old put led_items : List Item) (t put_t led_t : Tables) (n count lead : ℕ) (ps run : List Piece) (c : Change) (r : IsRunChange run front old n c) (after_front : c.window.with_front ≡ false) (inner : Reading) (reads : Reads c.text inner)
    (within : n ≤ length old) (inserted : AreInserted c t old put count lead) (led : LeadWithin ps c.window.from front put put_t new_front led_items led_t) where
  abbrev from : ℕ
  from = c.window.from

  abbrev to : ℕ
  to = c.window.to

  abbrev new : List Item
  new = all_stored inner.items

  abbrev gone : List Item
  gone = between (from + lead) to old

  order : from ≤ to
  order = r.change.window.ordered

  come : put ≡ take from old ++ (new ++ drop from old)
  come = inserted_in.put c old put count lead inserted.put inserted.leads inner reads

  put_before : take from put ≡ take from old
  put_before = before_put c old put count lead inserted.put inserted.leads inner reads

  long : length new ≡ count
  long = long_new c old put count lead inserted.put inserted.leads inner reads

  pub long_put : length put ≡ length old + count
  long_put = long_now c old put count lead inserted.put inserted.leads inner reads

  put_after : drop from put ≡ new ++ drop from old
  put_after = ap (drop from) come ∙ drop_at (take from old) (new ++ drop from old) from (long_before c old put count lead inserted.put inserted.leads inner reads)

  led_parts : led_items ≡ (led.first ++ new) ++ drop from old
  led_parts = led.stay ∙ ap (λ l. led.first ++ l) put_after ∙ sym (append_assoc led.first new (drop from old))

  pub long_led : length led_items ≡ length led.first + length new + (length old - from)
  long_led =
      let all = ap (length {A = Item}) led_parts in
      omega (arith, all, length-append (led.first ++ new) (drop from old), length-append led.first new, length-drop from old)

  -- the place of the run's old items then
  pub old_place : length led_items - (length old - from) ≡ length led.first + length new
  old_place = let a = long_led in let o = order in let h = r.to in omega (arith, a, o, h, within)

  old_after : (at : ℕ) → at ≡ length led.first + length new → drop at led_items ≡ drop from old
  old_after at is = ap (drop at) led_parts ∙ drop_at (led.first ++ new) (drop from old) at (length-append led.first new ∙ sym is)

  led_gone : (at end : ℕ) → at ≡ length led.first + length new → end ≡ at + (to - from) → between (at + lead) end led_items ≡ gone
  led_gone at end is ends = gone_at c old put count lead inserted.put inserted.leads inner reads led_items at end (old_after at is) ends

  -- they are the same
  pub old_may : (at end : ℕ) → at ≡ length led.first + length new → end ≡ at + (to - from) → (IsFirm t → IsFirm led_t) → MayPassBetween led_t (at + lead) end led_items
  old_may at end is ends firm all are =
      let pass = inserted.gone all
      (subst (λ (bodies : List Text). AreItemsOf bodies all) (ap bodies_in (led_gone at end is ends ∙ sym (gone_put c old put count lead inserted.put inserted.leads inner reads))) are) in
      record { are = are; may = (still_pass t led_t _ all firm pass).may }

  -- what is left once they are gone
  abbrev prefix : List Item
  prefix = take n old

  left_parts : (at end : ℕ) → at ≡ length led.first + length new → end ≡ at + (to - from) → without_range at end led_items ≡ (led.first ++ (new ++ drop to prefix)) ++ drop n old
  left_parts at end is ends =
      let sum : from + (to - from) ≡ to = let o = order in omega (arith, o) in
      let long_prefix : length prefix ≡ n = length-take-le n old within in
      let h = r.to in
      let dropped : drop to old ≡ drop to prefix ++ drop n old
      = ap (drop to) (sym (take-append-drop n old)) ∙ drop-append-le to prefix (drop n old) (omega (arith, h, long_prefix)) in
      ap₂ ◌++◌
      (ap (take at) led_parts ∙ take_at (led.first ++ new) (drop from old) at (length-append led.first new ∙ sym is))
      (ap (λ m. drop m led_items) ends ∙ sym (drop-drop (to - from) at led_items) ∙ ap (drop (to - from)) (old_after at is) ∙ drop-drop (to - from) from old ∙ ap (λ m. drop m old) sum ∙ dropped)
      ∙ simp append_assoc

  -- ---- the tables

  long_prefix : length prefix ≡ n
  long_prefix = length-take-le n old within

  prefix_is : prefix ≡ take to old ++ drop to prefix
  prefix_is = let h = r.to in sym (take-append-drop to prefix) ∙ ap (λ (l : List Item). l ++ drop to prefix) (take-take to n old h)

  -- the items that came stand before those that go
  module _ (inserted_t : FollowInserted c lead old t put_t) (rest : List Item) (room : length rest ≤ length old - n) (f : AreFollowed (prefix ++ rest) t) where
    abbrev after : List Item
    after = drop to prefix ++ rest

    long_after : length after ≤ length old - to
    long_after = let h = r.to in omega (arith, h, room, within, long_prefix, length-append (drop to prefix) rest, length-drop to prefix)

    whole : prefix ++ rest ≡ take to old ++ after
    whole = ap (λ (l : List Item). l ++ rest) prefix_is ∙ append_assoc (take to old) (drop to prefix) rest

    pub before_run : AreFollowed (take to old ++ after) t
    before_run = subst (λ (l : List Item). AreFollowed l t) whole f

    pub with_run : AreFollowed (take from put ++ ((new ++ gone) ++ after)) put_t
    with_run =
        subst (λ (l : List Item). AreFollowed l put_t)
        (append_assoc (take from old) (new ++ gone) after ∙ ap (λ (l : List Item). l ++ ((new ++ gone) ++ after)) (sym put_before))
        (inserted_t inner reads after long_after before_run)

    pub few : length ((new ++ gone) ++ after) ≤ length put - from
    few =
        let a = long_put in
        let b = long_after in
        let d = long_gone c old put count lead inserted.put inserted.leads inner reads in
        let h = inserted.leads.go in
        let w = r.to in
        omega (arith, a, b, d, h, w, within, long, length-append (new ++ gone) after, length-append new gone)

  run_followed : (new_t : Tables) (at end : ℕ) → at ≡ length led.first + length new → end ≡ at + (to - from) → FollowInserted c lead old t put_t
      → ((before : List Item) → length before ≡ at → StayFollowed (length led_items - end) (before ++ between (at + lead) end led_items) led_t before new_t)
      → StayFollowed (length old - n) prefix t (led.first ++ (new ++ drop to prefix)) new_t
  run_followed new_t at end is ends inserted_t taken rest room f =
      let after : List Item = drop to prefix ++ rest in
      let g = led.followed ((new ++ gone) ++ after) (few inserted_t rest room f) (with_run inserted_t rest room f) in
      let same : led.first ++ ((new ++ gone) ++ after) ≡ ((led.first ++ new) ++ between (at + lead) end led_items) ++ after
      = (simp append_assoc) ∙ ap (λ (l : List Item). ((led.first ++ new) ++ l) ++ after) (sym (led_gone at end is ends)) in
      let a = long_led in
      let b = long_after inserted_t rest room f in
      let o = order in
      let h = r.to in
      subst (λ (l : List Item). AreFollowed l new_t) (simp append_assoc)
      (taken (led.first ++ new) (length-append led.first new ∙ sym is) after (omega (arith, a, b, o, h, within, is, ends)) (subst (λ (l : List Item). AreFollowed l led_t) same g))

  -- ---- the file

  prefix_window : IsWindow prefix c.window
  prefix_window =
      let h = r.to in
      let long = long_prefix in
      record { ordered = order; within = omega (arith, h, long); begins = r.change.window.begins }

  abbrev first_bytes : Text
  first_bytes = file_of front (take from old)

  before_is : bytes_before c.window front old ≡ first_bytes
  before_is = ap (λ (b : Bool). file_of (front_before b front) (take from old)) after_front

  abbrev run_bytes : Text
  run_bytes = bytes_within c.window front old

  abbrev rest_bytes : Text
  rest_bytes = bytes_after c.window prefix

  prefix_parts : file_of front prefix ≡ first_bytes ++ (run_bytes ++ rest_bytes)
  prefix_parts =
      let o = order in
      let h = r.to in
      let low : from ≤ n = omega (arith, o, h) in
      file-around c.window front prefix prefix_window
      ∙ ap₂ (λ (x y : Text). x ++ (y ++ rest_bytes))
      (ap₂ (λ (b : Bool) (l : List Item). file_of (front_before b front) l) after_front (take-take from n old low))
      (ap (file_of (front_within c.window.with_front front)) (between-first old from to n o h))

  first_fit : Fit ps first_bytes
  first_fit = subst (λ (l : List Item). Fit ps (file_of front l)) put_before led.fit

  run_fit : FitAfter (length first_bytes) run run_bytes
  run_fit = subst (λ (x : Text). FitAfter (length x) run run_bytes) before_is r.lie.fit

  text_is : flat_map kept_bytes new ≡ applied (all_moved_back (length first_bytes) run) run_bytes
  text_is =
      bytes-stored inner.items
      ∙ ap (λ (x : Text). x ++ flat_map item_bytes inner.items) (sym (r.change.begins after_front inner reads))
      ∙ reads.bytes
      ∙ r.lie.text
      ∙ ap (λ (x : Text). applied (all_moved_back (length x) run) run_bytes) before_is

  pub run_led : (all : List Piece) (after : List Item) (new_t : Tables) (at end : ℕ) → all ≡ ps ++ run → at ≡ length led.first + length new → end ≡ at + (to - from) → after ≡ without_range at end led_items
      → FollowInserted c lead old t put_t
      → ((before : List Item) → length before ≡ at → StayFollowed (length led_items - end) (before ++ between (at + lead) end led_items) led_t before new_t)
      → LeadWithin all n front old t new_front after new_t
  run_led all after new_t at end pieces is ends out inserted_t taken =
      subst (λ (qs : List Piece). LeadWithin qs n front old t new_front after new_t) (sym pieces)
      (record {
        first = led.first ++ (new ++ drop to prefix);
        stay = out ∙ left_parts at end is ends;
        clean = led.clean;
        fit = subst (λ (x : Text). Fit (ps ++ run) x) (sym prefix_parts) (both_fit first_bytes run_bytes rest_bytes ps run first_fit run_fit);
        made =
            ap (λ l. new_front ++ l)
            (flat_map-append kept_bytes led.first (new ++ drop to prefix) ∙ ap (λ l. flat_map kept_bytes led.first ++ l) (flat_map-append kept_bytes new (drop to prefix)))
            ∙ sym (append_assoc new_front (flat_map kept_bytes led.first) (flat_map kept_bytes new ++ rest_bytes))
            ∙ ap₂ (λ (x y : Text). x ++ (y ++ rest_bytes)) (led.made ∙ ap (λ (l : List Item). applied ps (file_of front l)) put_before) text_is
            ∙ sym (both_applied first_bytes run_bytes rest_bytes ps run first_fit run_fit)
            ∙ ap (applied (ps ++ run)) (sym prefix_parts);
        followed = run_followed new_t at end is ends inserted_t taken;
      })

-- ---- a run, if one before it is refused

pub run_back : (front : Text) (old put tried : List Item) (t put_t led_t taken_t : Tables) (n count lead : ℕ) (run : List Piece) (c : Change) → IsRunChange run front old n c → (inner : Reading) → Reads c.text inner
    → n ≤ length old → AreInserted c t old put count lead → tried ≡ put → FollowInserted c lead old t put_t
    → StayFollowed (length put - c.window.from) (take c.window.from put) put_t (take c.window.from put) led_t
    → ((before : List Item) → length before ≡ c.window.from + lead
    → StayFollowed (length tried - (c.window.from + count)) (before ++ between (c.window.from + lead) (c.window.from + count) tried) led_t before taken_t)
    → ComesBack c lead old
    → StayFollowed (length old - n) (take n old) t (take n old) taken_t
run_back front old put tried t put_t led_t taken_t n count lead run c r inner reads within inserted same inserted_t back taken comes rest room f =
    let from : ℕ = c.window.from in
    let to : ℕ = c.window.to in
    let new : List Item = all_stored inner.items in
    let prefix : List Item = take n old in
    let gone : List Item = between (from + lead) to old in
    let after : List Item = drop to prefix ++ rest in
    let long_prefix : length prefix ≡ n = length-take-le n old within in
    let h = r.to in
    let o = r.change.window.ordered in
    let high = inserted.leads.go in
    let low = inserted.leads.come in
    let long = long_new c old put count lead inserted.put inserted.leads inner reads in
    let all = long_now c old put count lead inserted.put inserted.leads inner reads in
    let wide = long_gone c old put count lead inserted.put inserted.leads inner reads in
    let before_long = long_before c old put count lead inserted.put inserted.leads inner reads in
    let whole : prefix ++ rest ≡ take to old ++ after
    = ap (λ (l : List Item). l ++ rest) (sym (take-append-drop to prefix) ∙ ap (λ (l : List Item). l ++ drop to prefix) (take-take to n old h)) ∙ append_assoc (take to old) (drop to prefix) rest in
    let long_after : length after ≤ length old - to = omega (arith, h, room, within, long_prefix, length-append (drop to prefix) rest, length-drop to prefix) in
    let start : AreFollowed (take to old ++ after) t = subst (λ (l : List Item). AreFollowed l t) whole f in
    let head = before_put c old put count lead inserted.put inserted.leads inner reads in
    let with_run : AreFollowed (take from put ++ ((new ++ gone) ++ after)) put_t
    = subst (λ (l : List Item). AreFollowed l put_t) (append_assoc (take from old) (new ++ gone) after ∙ ap (λ (l : List Item). l ++ ((new ++ gone) ++ after)) (sym head))
    (inserted_t inner reads after long_after start) in
    let few : length ((new ++ gone) ++ after) ≤ length put - from = omega (arith, all, long_after, wide, high, h, within, long, length-append (new ++ gone) after, length-append new gone) in
    let g = back ((new ++ gone) ++ after) few with_run in
    let again : List Item = take lead new in
    let come : between (from + lead) (from + count) tried ≡ drop lead new
    = ap (between (from + lead) (from + count)) same ∙ come_put c old put count lead inserted.put inserted.leads inner reads in
    let parts : take from put ++ ((new ++ gone) ++ after) ≡ ((take from old ++ again) ++ between (from + lead) (from + count) tried) ++ (gone ++ after)
    = ap₂ (λ (x y : List Item). x ++ ((y ++ gone) ++ after)) head (sym (take-append-drop lead new))
    ∙ (simp append_assoc)
    ∙ ap (λ (l : List Item). ((take from old ++ again) ++ l) ++ (gone ++ after)) (sym come) in
    let size : length (take from old ++ again) ≡ from + lead = omega (arith, before_long, low, long, length-append (take from old) again, length-take-le lead new (omega (arith, low, long))) in
    let most : length (gone ++ after) ≤ length tried - (from + count) = omega (arith, ap (length {A = Item}) same, all, long_after, wide, high, h, within, length-append gone after) in
    let left = taken (take from old ++ again) size (gone ++ after) most (subst (λ (l : List Item). AreFollowed l led_t) parts g) in
    subst (λ (l : List Item). AreFollowed l taken_t) (sym whole) (comes inner reads after t taken_t start left)
