-- The places of a reading: where the bytes of each item lie in the file.
use Rattle.bib_scan.proofs.Words.{◌≡◌, ℕ, ◌+◌, ◌-◌, ◌<◌, ◌≤◌, List, [], ◌∷◌, ◌++◌, length, get_or, take, drop, refl, sym, ap, subst, ◌∙◌, arith, append_assoc, inl, inr, Option, None, Some, length-map, length-append, take-append-drop, take_at, drop_at, drop_all, drop_more, drop-drop}
use Rattle.bib_scan.proofs.Words.{slice_get-get_or, slice_get_within, get_or_from_slice_get, enumerate_from, flat_map, name_limit, Text, CommentTree, tree_bytes, Item, Reading, item_bytes, Reads, Span, span, Places, start_of, span_of, places_of, trail_end, IsLayoutOf}
use Rattle.std.proofs.lemmas.List.FromFn.{length-enumerate_from, get_or-enumerate_from}
use Rattle.std.proofs.lemmas.Grind.{flat_map-append}
use Rattle.std.proofs.lemmas.Option.{slice_get-map, slice_get_cases}
use Rattle.std.specs.Option.{option_map}
use Rattle.std.specs.List.{slice_get}
use Rattle.bib_scan.specs.Layout.{start_or}
use Rattle.bib_scan.proofs.ReadingLaws.{start_more}
use Rattle.bib_scan.proofs.OneReading.{one_reading}

-- there is a place for each item
pub length-places : (db : Reading) → length (places_of db).items ≡ length db.items
length-places db = length-map (enumerate_from 0 db.items) (span_of db) ∙ length-enumerate_from 0 db.items

pub front_is : (b : Text) (places : Places) (db : Reading) → IsLayoutOf b places → Reads b db → take places.front_len b ≡ db.front
front_is b places db (dc, rc, is) rb =
    let same = one_reading name_limit b db dc rb rc in
    let len : places.front_len ≡ length db.front = ap (λ (p : Places). p.front_len) is ∙ ap (λ (x : Reading). length x.front) (sym same) in
    ap (λ (n : ℕ). take n b) len ∙ ap (take (length db.front)) (sym rb.bytes) ∙ take_at db.front _ _ refl

-- where item n lies in the file, and the text after it
pub record ItemIn (b : Text) (places : Places) (n : ℕ) : Type 0 where
  pub item : Item
  pub is : (db : Reading) → Reads b db → slice_get db.items n ≡ Some item
  pub start : ℕ
  pub body : slice_get places.items n ≡ Some (span start (start + length (tree_bytes item.tree)))
  pub rest : Text
  pub split : drop start b ≡ item_bytes item ++ rest
  pub within : start + length (item_bytes item) ≤ length b
  pub next : (s : Span) → slice_get places.items (n + 1) ≡ Some s → s.start ≡ start + length (item_bytes item)
  pub last : slice_get places.items (n + 1) ≡ None → length b ≡ start + length (item_bytes item)

pub any_item : Item
any_item = record { tree = CommentTree (record { space_before_type = []; type_name = [] }); trail = [] }

pub span_at : (db : Reading) (n : ℕ) → n < length db.items → slice_get (places_of db).items n ≡ Some (span_of db (n, get_or db.items n any_item))
span_at db n lt =
    let numbered = enumerate_from 0 db.items in
    let low : n < length numbered = omega (arith, length-enumerate_from 0 db.items) in
    let here : get_or numbered n (0, any_item) ≡ (n, get_or db.items n any_item) = get_or-enumerate_from 0 db.items n (0, any_item) lt ∙ ap (λ (m : ℕ). (m, get_or db.items n any_item)) (omega arith) in
    slice_get-map (span_of db) numbered n
    ∙ ap (option_map (span_of db)) (slice_get-get_or numbered n (0, any_item) low)
    ∙ ap (λ (x : ℕ × Item). Some (span_of db x)) here

none_past : {X : Type 0} → (xs : List X) (n : ℕ) → slice_get xs n ≡ None → length xs ≤ n
none_past {X = X} xs n none = elim (slice_get_cases xs n).1 [
  | inl here ↦ absurd (not_both here.0 _ here.2 none)
  | inr past ↦ past.0
]
  where
    not_both : (x : X) (o : Option X) → o ≡ Some x → o ≡ None → ⊥
    not_both x o some nothing = cc

pub item_in : (b : Text) (places : Places) (n : ℕ) → IsLayoutOf b places → n < length places.items → ItemIn b places n
item_in b places n (dc, rc, is) lt =
    let spans : places.items ≡ (places_of dc).items = ap (λ (p : Places). p.items) is in
    let low : n < length dc.items = omega (arith, ap (length {A = Span}) spans, length-places dc) in
    let i : Item = get_or dc.items n any_item in
    let more : drop n dc.items ≡ i ∷ drop (n + 1) dc.items = drop_more dc.items n any_item low in
    let front : Text = dc.front ++ flat_map item_bytes (take n dc.items) in
    let rest : Text = flat_map item_bytes (drop (n + 1) dc.items) in
    let parts : flat_map item_bytes dc.items ≡ flat_map item_bytes (take n dc.items) ++ (item_bytes i ++ rest) =
    ap (flat_map item_bytes) (sym (take-append-drop n dc.items)) ∙ flat_map-append item_bytes (take n dc.items) (drop n dc.items)
    ∙ ap (λ (u : List Item). flat_map item_bytes (take n dc.items) ++ flat_map item_bytes u) more in
    let whole : b ≡ front ++ (item_bytes i ++ rest) =
    sym rc.bytes ∙ ap (λ (u : Text). dc.front ++ u) parts ∙ sym (append_assoc dc.front (flat_map item_bytes (take n dc.items)) (item_bytes i ++ rest)) in
    let len : length front ≡ start_of dc n = length-append dc.front (flat_map item_bytes (take n dc.items)) in
    let whole_len = ap (length {A = ℕ}) whole in
    let l1 = length-append front (item_bytes i ++ rest) in
    let l2 = length-append (item_bytes i) rest in
    let next_start = start_more dc n i (drop (n + 1) dc.items) more in
    record {
      item = i;
      is = λ db rb. ap (λ (x : Reading). slice_get x.items n) (one_reading name_limit b db dc rb rc) ∙ slice_get-get_or dc.items n any_item low;
      start = start_of dc n;
      body = ap (λ (ss : List Span). slice_get ss n) spans ∙ span_at dc n low;
      rest = rest;
      split = ap (drop (start_of dc n)) whole ∙ drop_at front (item_bytes i ++ rest) (start_of dc n) len;
      within = omega arith;
      next = λ s found.
          let in_spans : slice_get (places_of dc).items (n + 1) ≡ Some s = ap (λ (ss : List Span). slice_get ss (n + 1)) (sym spans) ∙ found in
          let in_items : n + 1 < length dc.items = omega (arith, slice_get_within (places_of dc).items (n + 1) s in_spans, length-places dc) in
          some_start s _ _ in_spans (span_at dc (n + 1) in_items) ∙ next_start;
      last = λ none.
          let past : length dc.items ≤ n + 1 = omega (arith, none_past places.items (n + 1) none, ap (length {A = Span}) spans, length-places dc) in
          let nothing : length rest ≡ 0 = ap (λ (u : List Item). length (flat_map item_bytes u)) (drop_all (n + 1) dc.items past) in
          omega arith;
    }
  where
    some_start : (s t : Span) (o : Option Span) → o ≡ Some s → o ≡ Some t → s.start ≡ t.start
    some_start s t o a b = cc

-- ---- the code's span of item n

span_is : (b : Text) (places : Places) (n : ℕ) (s : Span) (at : ItemIn b places n) → s ≡ get_or places.items n s → s ≡ span at.start (at.start + length (tree_bytes at.item.tree))
span_is b places n s at is = is ∙ get_or_from_slice_get places.items n _ s at.body

-- a body lies in the file
pub record Lies (b : Text) (s : Span) : Type 0 where
  pub ordered : s.start ≤ s.end
  pub within : s.end ≤ length b

pub body_lies : (b : Text) (places : Places) (n : ℕ) (s : Span) → IsLayoutOf b places → n < length places.items → s ≡ get_or places.items n s → Lies b s
body_lies b places n s layout lt is =
    let at = item_in b places n layout lt in
    let l = length-append (tree_bytes at.item.tree) at.item.trail in
    subst (Lies b) (sym (span_is b places n s at is)) (record { ordered = omega arith; within = omega (arith, at.within) })

some_same : (i j : Item) (o : Option Item) → o ≡ Some i → o ≡ Some j → i ≡ j
some_same i j o a b = cc

item_is : (b : Text) (places : Places) (n : ℕ) (at : ItemIn b places n) (db : Reading) (i : Item) → Reads b db → slice_get db.items n ≡ Some i → at.item ≡ i
item_is b places n at db i reads found = some_same at.item i (slice_get db.items n) (at.is db reads) found

pub body_is : (b : Text) (places : Places) (n : ℕ) (s : Span) (db : Reading) (i : Item) → IsLayoutOf b places → n < length places.items → s ≡ get_or places.items n s → Reads b db → slice_get db.items n ≡ Some i → take (s.end - s.start) (drop s.start b) ≡ tree_bytes i.tree
body_is b places n s db i layout lt is reads found =
    let at = item_in b places n layout lt in
    let body : Text = tree_bytes at.item.tree in
    let len : length body ≡ (at.start + length body) - at.start = omega arith in
    let taken : take ((at.start + length body) - at.start) (drop at.start b) ≡ body = ap (take ((at.start + length body) - at.start)) (at.split ∙ append_assoc body at.item.trail at.rest) ∙ take_at body (at.item.trail ++ at.rest) _ len in
    subst (λ (x : Span). take (x.end - x.start) (drop x.start b) ≡ tree_bytes i.tree) (sym (span_is b places n s at is)) (taken ∙ ap (λ (x : Item). tree_bytes x.tree) (item_is b places n at db i reads found))

-- ---- the trail of item n, which ends there

end_is : (b : Text) (places : Places) (n : ℕ) (at : ItemIn b places n) → trail_end b places n ≡ at.start + length (item_bytes at.item)
end_is b places n at = go (slice_get places.items (n + 1)) refl
  where
    go : (o : Option Span) → slice_get places.items (n + 1) ≡ o → start_or (length b) o ≡ at.start + length (item_bytes at.item)
    go None none = at.last none
    go (Some s) some = at.next s some

pub trail_lies : (b : Text) (places : Places) (n end : ℕ) (s : Span) → IsLayoutOf b places → n < length places.items → s ≡ get_or places.items n s → end ≡ trail_end b places n → Lies b (span s.end end)
trail_lies b places n end s layout lt is ends =
    let at = item_in b places n layout lt in
    let l = length-append (tree_bytes at.item.tree) at.item.trail in
    let start : s.end ≡ at.start + length (tree_bytes at.item.tree) = ap (λ (x : Span). x.end) (span_is b places n s at is) in
    let stop = ends ∙ end_is b places n at in
    record { ordered = omega arith; within = omega (arith, at.within) }

pub trail_is : (b : Text) (places : Places) (n end : ℕ) (s : Span) (db : Reading) (i : Item) → IsLayoutOf b places → n < length places.items → s ≡ get_or places.items n s → end ≡ trail_end b places n → Reads b db → slice_get db.items n ≡ Some i → take (end - s.end) (drop s.end b) ≡ i.trail
trail_is b places n end s db i layout lt is ends reads found =
    let at = item_in b places n layout lt in
    let body : Text = tree_bytes at.item.tree in
    let trail : Text = at.item.trail in
    let l = length-append body trail in
    let start : s.end ≡ at.start + length body = ap (λ (x : Span). x.end) (span_is b places n s at is) in
    let stop = ends ∙ end_is b places n at in
    let len : length trail ≡ end - s.end = omega arith in
    let after : drop s.end b ≡ trail ++ at.rest =
    ap (λ (m : ℕ). drop m b) start ∙ sym (drop-drop (length body) at.start b) ∙ ap (drop (length body)) (at.split ∙ append_assoc body trail at.rest) ∙ drop_at body (trail ++ at.rest) _ refl in
    ap (take (end - s.end)) after ∙ take_at trail at.rest _ len ∙ ap (λ (x : Item). x.trail) (item_is b places n at db i reads found)
