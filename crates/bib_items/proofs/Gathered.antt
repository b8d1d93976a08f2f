-- The places of the items of a text that was read, page by page.
use Rattle.bib_items.proofs.Words.{◌≡◌, ℕ, ◌+◌, ◌-◌, ◌≤◌, ◌<◌, List, [], ◌∷◌, ◌++◌, length, take, drop, get_or, sym, ◌∙◌, ap, ap₂, refl, arith, inl, append_assoc, take-append-drop, Some, length-map, map-append, take_all, take_more, drop_more, length-take-le, get_or-drop, take-add, slice_get-get_or}
use Rattle.bib_items.proofs.Words.{flat_map, flat_map-append, All-nil, All-push, Text, tree_bytes, Reading, Reads, Places, IsLayoutOf, start_of, Item, Span, item, stored, kept_bytes, all_stored, total, item_in, items_in, LiesInEither, LieInEither, page_limit, IsPage, ArePages, joined, all_append}
use Rattle.bib_items.proofs.Words.{joined-append}
use Rattle.std.proofs.Common.{length-append, length-drop}
use Rattle.std.proofs.lemmas.List.{append-nil}
use Rattle.std.specs.List.{slice_get}
use Rattle.bib_spec.specs.Reading as reading
use Rattle.bib_spec.specs.Reading.{item_bytes}
use Rattle.bib_items.proofs.ItemsIn.{total-append, standing_is}
use Rattle.bib_items.proofs.Filled.{any_item, counted_layout}

-- the spans are those of the items of the text from number `from` up to number n, which begins at this place
pub record AreSpansOf (text : Text) (start from n : ℕ) (spans : List Span) (place : ℕ) : Type 0 where
  pub sum : place ≡ start + total spans
  pub at : (db : Reading) → Reads text db → place ≡ start_of db n
  pub items : (db : Reading) → Reads text db → items_in (text ++ []) spans ≡ all_stored (take (n - from) (drop from db.items))
  pub lie : LieInEither text [] spans

pub spans_none : (text : Text) (from start : ℕ) → ((db : Reading) → Reads text db → start ≡ start_of db from) → AreSpansOf text start from from [] start
spans_none text from start at = record {
  sum = omega arith;
  at = at;
  items = λ db reads.
      let none : from - from ≡ 0 = omega arith in
      ap (λ (k : ℕ). all_stored (take k (drop from db.items))) (sym none);
  lie = All-nil (LiesInEither text []);
}

-- where item n stands in the text
record Stands (text : Text) (db : Reading) (n : ℕ) (i : reading.Item) : Type 0 where
  before : Text
  rest : Text
  is : text ≡ before ++ (item_bytes i ++ rest)
  begins : length before ≡ start_of db n
  next : start_of db n + length (item_bytes i) ≡ start_of db (n + 1)

stands : (text : Text) (db : Reading) (n : ℕ) → Reads text db → n < length db.items → Stands text db n (get_or db.items n any_item)
stands text db n reads here =
    let i : reading.Item = get_or db.items n any_item in
    let first : Text = flat_map item_bytes (take n db.items) in
    let rest : Text = flat_map item_bytes (drop (n + 1) db.items) in
    let parts : db.items ≡ take n db.items ++ (i ∷ drop (n + 1) db.items) = sym (take-append-drop n db.items) ∙ ap (λ l. take n db.items ++ l) (drop_more db.items n any_item here) in
    let up_to : flat_map item_bytes (take (n + 1) db.items) ≡ first ++ (item_bytes i ++ [])
    = ap (flat_map item_bytes) (take_more db.items n any_item here) ∙ flat_map-append item_bytes (take n db.items) (i ∷ []) in
    record {
      before = db.front ++ first;
      rest = rest;
      is = sym reads.bytes
          ∙ ap (λ l. db.front ++ l) (ap (flat_map item_bytes) parts ∙ flat_map-append item_bytes (take n db.items) (i ∷ drop (n + 1) db.items))
          ∙ sym (append_assoc db.front first (item_bytes i ++ rest));
      begins = length-append db.front first;
      next = omega (arith, ap length up_to, length-append first (item_bytes i ++ []), length-append (item_bytes i) []);
    }

pub spans_more : (text : Text) (places : Places) (start from n : ℕ) (spans : List Span) (place len : ℕ) (body trail : Text) (s : Span)
    → IsLayoutOf text places → from ≤ n → n < length places.items → AreSpansOf text start from n spans place
    → ((db : Reading) (i : reading.Item) → Reads text db → slice_get db.items n ≡ Some i → body ≡ tree_bytes i.tree)
    → ((db : Reading) (i : reading.Item) → Reads text db → slice_get db.items n ≡ Some i → trail ≡ i.trail)
    → s.start ≡ place → s.body ≡ length body → s.trail ≡ length trail → len ≡ length body + length trail
    → AreSpansOf text start from (n + 1) (spans ++ s ∷ []) (place + len)
spans_more text places start from n spans place len body trail s is order low a b t begins body_len trail_len len_is =
    let here_is : (db : Reading) → Reads text db → n < length db.items = λ db reads. let count = counted_layout text places is db reads in omega (arith, count, low) in
    let stored_is : (db : Reading) (reads : Reads text db) → item body trail ≡ stored (get_or db.items n any_item)
    = λ db reads.
    let at : slice_get db.items n ≡ Some (get_or db.items n any_item) = slice_get-get_or db.items n any_item (here_is db reads) in
    ap₂ item (b db (get_or db.items n any_item) reads at) (t db (get_or db.items n any_item) reads at) in
    let bytes_are : (db : Reading) (reads : Reads text db) → body ++ trail ≡ item_bytes (get_or db.items n any_item) = λ db reads. ap kept_bytes (stored_is db reads) in
    let within : (db : Reading) (reads : Reads text db) → place + len ≤ length text
    = λ db reads.
    let w = stands text db n reads (here_is db reads) in
    omega (
      arith,
      len_is,
      a.at db reads,
      w.begins,
      ap length w.is,
      ap length (bytes_are db reads),
      length-append body trail,
      length-append w.before (item_bytes (get_or db.items n any_item) ++ w.rest),
      length-append (item_bytes (get_or db.items n any_item)) w.rest,
    ) in
    let fits : place + len ≤ length text = within is.0 is.1 in
    record {
      sum = omega (arith, a.sum, total-append spans (s ∷ []), body_len, trail_len, len_is);
      at = λ db reads.
          let w = stands text db n reads (here_is db reads) in
          omega (arith, a.at db reads, w.next, len_is, ap length (bytes_are db reads), length-append body trail);
      items = λ db reads.
          let w = stands text db n reads (here_is db reads) in
          let k : ℕ = n - from in
          let inside : k < length (drop from db.items) = let h = here_is db reads in omega (arith, h, order, length-drop from db.items) in
          let at_n : from + k ≡ n = omega (arith, order) in
          let next_n : n + 1 - from ≡ k + 1 = omega (arith, order) in
          let whole : text ++ [] ≡ w.before ++ ((body ++ trail) ++ w.rest) = append-nil text ∙ w.is ∙ ap (λ (l : Text). w.before ++ (l ++ w.rest)) (sym (bytes_are db reads)) in
          let next : all_stored (take (n + 1 - from) (drop from db.items)) ≡ all_stored (take k (drop from db.items)) ++ item body trail ∷ []
          = ap (λ (m : ℕ). all_stored (take m (drop from db.items))) next_n
          ∙ ap all_stored
          (take_more (drop from db.items) k any_item inside
          ∙ ap (λ (x : reading.Item). take k (drop from db.items) ++ x ∷ []) (get_or-drop from db.items k any_item ∙ ap (λ (m : ℕ). get_or db.items m any_item) at_n))
          ∙ map-append stored (take k (drop from db.items)) (get_or db.items n any_item ∷ [])
          ∙ ap (λ (x : Item). all_stored (take k (drop from db.items)) ++ x ∷ []) (sym (stored_is db reads)) in
          map-append (item_in (text ++ [])) spans (s ∷ [])
          ∙ ap₂ (λ (l : List Item) (i : Item). l ++ i ∷ []) (a.items db reads)
          (ap (λ bytes. item_in bytes s) whole ∙ standing_is w.before body trail w.rest s (begins ∙ a.at db reads ∙ sym w.begins) body_len trail_len)
          ∙ sym next;
      lie = All-push (LiesInEither text []) spans s a.lie (inl (omega (arith, fits, begins, body_len, trail_len, len_is)));
    }

-- ---- where a page ends

stored_bytes : (items : List reading.Item) → flat_map kept_bytes (all_stored items) ≡ flat_map item_bytes items
stored_bytes [] = refl
stored_bytes (i ∷ items) = ap (λ (l : Text). item_bytes i ++ l) (stored_bytes items)

-- the items after a page begin where those of the page end, which is within the text
pub record EndsAt (text : Text) (start : ℕ) (page : List Item) (end : ℕ) : Type 0 where
  pub next : start + length (flat_map kept_bytes page) ≡ end
  pub within : end ≤ length text

pub page_ends : (text : Text) (db : Reading) (from to start : ℕ) (page : List Item) → Reads text db → from ≤ to → start ≡ start_of db from → page ≡ all_stored (take (to - from) (drop from db.items)) → EndsAt text start page (start_of db to)
page_ends text db from to start page reads order at is =
    let sum : from + (to - from) ≡ to = omega (arith, order) in
    let front : Text = flat_map item_bytes (take from db.items) in
    let mid : Text = flat_map item_bytes (take (to - from) (drop from db.items)) in
    let parts : flat_map item_bytes (take to db.items) ≡ front ++ mid
    = ap (λ (m : ℕ). flat_map item_bytes (take m db.items)) (sym sum) ∙ ap (flat_map item_bytes) (take-add from (to - from) db.items) ∙ flat_map-append item_bytes (take from db.items) (take (to - from) (drop from db.items)) in
    let bytes : flat_map kept_bytes page ≡ mid = ap (flat_map kept_bytes) is ∙ stored_bytes (take (to - from) (drop from db.items)) in
    let whole : text ≡ db.front ++ (flat_map item_bytes (take to db.items) ++ flat_map item_bytes (drop to db.items))
    = sym reads.bytes ∙ ap (λ (l : Text). db.front ++ l) (ap (flat_map item_bytes) (sym (take-append-drop to db.items)) ∙ flat_map-append item_bytes (take to db.items) (drop to db.items)) in
    record {
      next = omega (arith, at, ap length bytes, ap length parts, length-append front mid);
      within = omega (
        arith,
        ap length whole,
        length-append db.front (flat_map item_bytes (take to db.items) ++ flat_map item_bytes (drop to db.items)),
        length-append (flat_map item_bytes (take to db.items)) (flat_map item_bytes (drop to db.items)),
      );
    }

-- ---- in pages

-- the pages have the first n items of the text
pub record IsFilledTo (text : Text) (n : ℕ) (pages : List (List Item)) : Type 0 where
  pub items : (db : Reading) → Reads text db → joined pages ≡ all_stored (take n db.items)
  pub pages_are : ArePages pages

pub filled_none : (text : Text) → IsFilledTo text 0 []
filled_none text = record { items = λ db reads. refl; pages_are = tt }

pub filled_page : (text : Text) (places : Places) (from to : ℕ) (pages : List (List Item)) (page : List Item)
    → IsLayoutOf text places → from < to → to ≤ from + page_limit → to ≤ length places.items → IsFilledTo text from pages
    → ((db : Reading) → Reads text db → page ≡ all_stored (take (to - from) (drop from db.items)))
    → IsFilledTo text to (pages ++ page ∷ [])
filled_page text places from to pages page is some within low f p =
    let count : length places.items ≡ length is.0.items = counted_layout text places is is.0 is.1 in
    let long : length page ≡ to - from
    = ap length (p is.0 is.1) ∙ length-map (take (to - from) (drop from is.0.items)) stored
    ∙ length-take-le (to - from) (drop from is.0.items) (omega (arith, length-drop from is.0.items)) in
    let is_page : IsPage page = record { some = omega arith; within = omega arith } in
    record {
      items = λ db reads.
          let whole : from + (to - from) ≡ to = omega arith in
          joined-append pages (page ∷ [])
          ∙ ap₂ (λ (a b : List Item). a ++ b) (f.items db reads) (append-nil page ∙ p db reads)
          ∙ sym (map-append stored (take from db.items) (take (to - from) (drop from db.items)))
          ∙ ap all_stored (sym (take-add from (to - from) db.items) ∙ ap (λ (m : ℕ). take m db.items) whole);
      pages_are = all_append IsPage pages (page ∷ []) f.pages_are (is_page, tt);
    }

pub filled_whole : (text : Text) (places : Places) (n : ℕ) (pages : List (List Item)) → IsLayoutOf text places → length places.items ≤ n → IsFilledTo text n pages
    → (db : Reading) → Reads text db → joined pages ≡ all_stored db.items
filled_whole text places n pages is high f db reads =
    let count : length places.items ≡ length db.items = counted_layout text places is db reads in
    f.items db reads ∙ ap all_stored (take_all n db.items (omega arith))
