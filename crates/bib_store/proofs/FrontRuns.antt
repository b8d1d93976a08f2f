-- The first run of pieces, if it changes the front.
use Rattle.bib_store.proofs.Words.{◌≡◌, ℕ, ◌-◌, ◌≤◌, Bool, true, List, [], ◌∷◌, ◌++◌, length, take, drop, sym, subst, ◌∙◌, ap, ap₂, arith, append_assoc, length-append, take-append-drop, flat_map, drop-append-le, take-take, Text, IsClean, Reading, Reads, Piece, Fit, applied, kept_bytes, all_stored}
use Rattle.bib_store.proofs.Words.{Change, Tables, IsRunChange, IsMeasured, AreFollowed, StayFollowed, LeadWithin, all_moved_back, FitAfter, file_of, IsWindow, front_before, front_within, bytes_before, bytes_within, bytes_after, exchanged}
use Rattle.std.proofs.Common.{length-drop}
use Rattle.std.proofs.lemmas.List.{length-take-le}
use Rattle.std.proofs.lemmas.List.Concat.{flat_map-append}
use Rattle.bib_items.specs.declared.list.Item.{Item}
use Rattle.bib_store.proofs.KeptItems.{bytes-stored}
use Rattle.bib_store.proofs.LedRuns.{between-first}
use Rattle.bib_store.proofs.RunPieces.{both_fit, both_applied}
use Rattle.bib_store.proofs.WindowLaws.{file-around}

module _ (front new_front : Text) (old after : List Item) (t new_t : Tables) (n : ℕ) (run : List Piece) (c : Change) (r : IsRunChange run front old n c) (with_front : c.window.with_front ≡ true) (inner : Reading) (reads : Reads c.text inner) (within : n ≤ length old) where
  abbrev prefix : List Item
  prefix = take n old

  abbrev new : List Item
  new = all_stored inner.items

  abbrev rest_bytes : Text
  rest_bytes = bytes_after c.window prefix

  abbrev run_bytes : Text
  run_bytes = bytes_within c.window front old

  order : c.window.from ≤ c.window.to
  order = r.change.window.ordered

  long_prefix : length prefix ≡ n
  long_prefix = length-take-le n old within

  from_none : c.window.from ≡ 0
  from_none = r.change.window.begins with_front

  before_none : (items : List Item) → bytes_before c.window front items ≡ []
  before_none items = ap₂ (λ (b : Bool) (m : ℕ). file_of (front_before b front) (take m items)) with_front from_none

  -- after the run comes what came after it
  dropped : drop c.window.to old ≡ drop c.window.to prefix ++ drop n old
  dropped = let h = r.to in ap (drop c.window.to) (sym (take-append-drop n old)) ∙ drop-append-le c.window.to prefix (drop n old) (omega (arith, h, long_prefix))

  prefix_parts : file_of front prefix ≡ run_bytes ++ rest_bytes
  prefix_parts =
      let o = order in
      let h = r.to in
      let in_prefix : IsWindow prefix c.window = record { ordered = o; within = omega (arith, h, long_prefix); begins = r.change.window.begins } in
      file-around c.window front prefix in_prefix
      ∙ ap₂ (λ (x y : Text). x ++ (y ++ rest_bytes)) (before_none prefix) (ap (file_of (front_within c.window.with_front front)) (between-first old c.window.from c.window.to n o h))

  none_fit : Fit [] []
  none_fit = record { ascending = tt; standing = tt }

  run_fit : FitAfter 0 run run_bytes
  run_fit = subst (λ (x : Text). FitAfter (length x) run run_bytes) (before_none old) r.lie.fit

  text_is : inner.front ++ flat_map kept_bytes new ≡ applied (all_moved_back 0 run) run_bytes
  text_is =
      ap (λ (x : Text). inner.front ++ x) (bytes-stored inner.items)
      ∙ reads.bytes
      ∙ r.lie.text
      ∙ ap (λ (x : Text). applied (all_moved_back (length x) run) run_bytes) (before_none old)

  front_followed : StayFollowed (length old - c.window.to) (take c.window.to old) t (take c.window.from old ++ new) new_t → StayFollowed (length old - n) prefix t (new ++ drop c.window.to prefix) new_t
  front_followed followed rest room f =
      let later : List Item = drop c.window.to prefix ++ rest in
      let h = r.to in
      let whole : prefix ++ rest ≡ take c.window.to old ++ later
      = ap (λ (l : List Item). l ++ rest) (sym (take-append-drop c.window.to prefix) ∙ ap (λ (l : List Item). l ++ drop c.window.to prefix) (take-take c.window.to n old h)) ∙ append_assoc (take c.window.to old) (drop c.window.to prefix) rest in
      let most : length later ≤ length old - c.window.to = omega (arith, h, room, within, long_prefix, length-append (drop c.window.to prefix) rest, length-drop c.window.to prefix) in
      subst (λ (l : List Item). AreFollowed l new_t)
      (ap (λ (m : ℕ). (take m old ++ new) ++ later) from_none ∙ sym (append_assoc new (drop c.window.to prefix) rest))
      (followed later most (subst (λ (l : List Item). AreFollowed l t) whole f))

  pub front_led : (all ps : List Piece) → all ≡ ps ++ run → length ps ≡ 0 → new_front ≡ inner.front → after ≡ exchanged c.window inner.items old
      → StayFollowed (length old - c.window.to) (take c.window.to old) t (take c.window.from old ++ new) new_t → LeadWithin all n front old t new_front after new_t
  front_led all [] pieces none front_is after_is followed =
      subst (λ (qs : List Piece). LeadWithin qs n front old t new_front after new_t) (sym pieces)
      (record {
        first = new ++ drop c.window.to prefix;
        stay = after_is ∙ ap₂ (λ (m : ℕ) (l : List Item). take m old ++ (new ++ l)) from_none dropped ∙ sym (append_assoc new (drop c.window.to prefix) (drop n old));
        clean = λ _. subst IsClean (sym front_is) reads.front;
        fit = subst (Fit run) (sym prefix_parts) (both_fit [] run_bytes rest_bytes [] run none_fit run_fit);
        made =
            ap₂ (λ (x y : Text). x ++ y) front_is (flat_map-append kept_bytes new (drop c.window.to prefix))
            ∙ sym (append_assoc inner.front (flat_map kept_bytes new) rest_bytes)
            ∙ ap (λ (x : Text). x ++ rest_bytes) text_is
            ∙ sym (both_applied [] run_bytes rest_bytes [] run none_fit run_fit)
            ∙ ap (applied run) (sym prefix_parts);
        followed = front_followed followed;
      })
  front_led all (p ∷ ps) pieces none front_is after_is followed = absurd (omega (arith, none))

  pub front_measured : new_front ≡ inner.front → after ≡ exchanged c.window inner.items old → new_t.file_len ≡ c.file_len → IsMeasured new_front after new_t
  front_measured front_is after_is len_is =
      let later : Text = bytes_after c.window old in
      let whole : file_of new_front after ≡ applied run (file_of front old)
      = ap₂ (λ (x : Text) (l : List Item). x ++ flat_map kept_bytes l) front_is (after_is ∙ ap (λ (m : ℕ). take m old ++ (new ++ drop c.window.to old)) from_none)
      ∙ ap (λ (x : Text). inner.front ++ x) (flat_map-append kept_bytes new (drop c.window.to old))
      ∙ sym (append_assoc inner.front (flat_map kept_bytes new) later)
      ∙ ap (λ (x : Text). x ++ later) (ap (λ (x : Text). inner.front ++ x) (bytes-stored inner.items) ∙ reads.bytes)
      ∙ ap (λ (x : Text). x ++ (c.text ++ later)) (sym (before_none old))
      ∙ sym r.change.made in
      let long = len_is ∙ r.change.len in
      let short = r.change.short in
      record { len = long ∙ ap (length {A = ℕ}) (sym whole); short = omega (arith, long, short) }
