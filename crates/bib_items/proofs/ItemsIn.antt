-- Items by the places where their bytes lie.
use Rattle.bib_items.proofs.Words.{◌≡◌, ℕ, zero, ◌+◌, ◌-◌, ◌≤◌, ◌<◌, suc, set, List, [], ◌∷◌, ◌++◌, length, take, drop, get_or, sym, ◌∙◌, ap, ap₂, refl, subst, arith, inl, append_assoc, take-append-drop, insert, remove, flat_map, take_at, drop_at, drop-drop, take_more, take_all, take-append-le}
use Rattle.bib_items.proofs.Words.{drop-append-le, length-take-le, length-map, map-append, take-map, All-head, All-tail, All-cons, All-nil, All-take, All-drop, All-append, All-push, All-set, All-weaker, Text, Item, Span, item, item_at, kept_bytes, span_end, total, item_in, items_in, LiesInEither}
use Rattle.bib_items.proofs.Words.{LieInEither, Extends}
use Rattle.std.proofs.Common.{inr, length-append, length-drop}
use Rattle.std.proofs.lemmas.List.{append-nil, map-set, drop-map, get_or-map, get_or_default}
use Rattle.std.proofs.lemmas.List.Elements.{All-get_or}

abbrev pub no_span : Span
no_span = record { start = 0; body = 0; trail = 0 }

-- ---- how many bytes

pub total-append : (a b : List Span) → total (a ++ b) ≡ total a + total b
total-append [] b = omega arith
total-append (s ∷ a) b = omega (arith, total-append a b)

pub total-take : (spans : List Span) (k : ℕ) → total (take k spans) + total (drop k spans) ≡ total spans
total-take spans k = sym (total-append (take k spans) (drop k spans)) ∙ ap total (take-append-drop k spans)

-- a span more in a sum
pub record IsSummed (spans : List Span) (k : ℕ) (s : Span) : Type 0 where
  pub next : total (take k spans) + (s.body + s.trail) ≡ total (take (k + 1) spans)
  pub within : total (take k spans) + (s.body + s.trail) ≤ total spans

pub summed : (spans : List Span) (k : ℕ) (s : Span) → k < length spans → s ≡ get_or spans k s → IsSummed spans k s
summed spans k s h e =
    let more : total (take (k + 1) spans) ≡ total (take k spans ++ s ∷ []) = ap total (take_more spans k s h ∙ ap (λ (x : Span). take k spans ++ x ∷ []) (sym e)) in
    let next : total (take k spans) + (s.body + s.trail) ≡ total (take (k + 1) spans) = omega (arith, more, total-append (take k spans) (s ∷ [])) in
    record { next = next; within = omega (arith, next, total-take spans (k + 1)) }

pub summed_at : (spans : List Span) (k : ℕ) → k < length spans → IsSummed spans k (get_or spans k no_span)
summed_at spans k h = summed spans k (get_or spans k no_span) h (get_or_default spans k no_span (get_or spans k no_span) h)

pub total-insert : (spans : List Span) (k : ℕ) (s : Span) → total (insert spans k s) ≡ total spans + (s.body + s.trail)
total-insert spans k s = omega (arith, total-append (take k spans) (s ∷ drop k spans), total-take spans k)

pub total-remove : (spans : List Span) (k : ℕ) (s : Span) → k < length spans → s ≡ get_or spans k s → total (remove spans k) + (s.body + s.trail) ≡ total spans
total-remove spans k s h e =
    let more = summed spans k s h e in
    let next : total (take (k + 1) spans) ≡ total (take (suc k) spans) = let same : k + 1 ≡ suc k = omega arith in ap (λ n. total (take n spans)) same in
    omega (arith, more.next, next, total-append (take k spans) (drop (suc k) spans), total-take spans (suc k))

pub total-set : (spans : List Span) (k : ℕ) (old new : Span) → k < length spans → old ≡ get_or spans k old → total (set spans k new) + (old.body + old.trail) ≡ total spans + (new.body + new.trail)
total-set [] k old new h e = absurd (omega (arith, h))
total-set (s ∷ spans) zero old new h e =
    let b : old.body ≡ s.body = ap (λ (x : Span). x.body) e in
    let t : old.trail ≡ s.trail = ap (λ (x : Span). x.trail) e in
    omega (arith, b, t)
total-set (s ∷ spans) (suc k) old new h e = omega (arith, total-set spans k old new (omega (arith, h)) e)

-- ---- one item

pub ends : (a b : Text) (s : Span) → LiesInEither a b s → span_end s ≤ length (a ++ b)
ends a b s (inl h) = omega (arith, h, length-append a b)
ends a b s (inr h) = omega (arith, h.1, length-append a b)

-- it has as many bytes as the span says
pub weighs : (bytes : Text) (s : Span) → span_end s ≤ length bytes → length (kept_bytes (item_in bytes s)) ≡ s.body + s.trail
weighs bytes s h =
    omega (
      arith,
      h,
      length-append (take s.body (drop s.start bytes)) (take s.trail (drop (s.start + s.body) bytes)),
      length-take-le s.body (drop s.start bytes) (omega (arith, h, length-drop s.start bytes)),
      length-take-le s.trail (drop (s.start + s.body) bytes) (omega (arith, h, length-drop (s.start + s.body) bytes)),
    )

pub in_first : (a b : Text) (s : Span) → span_end s ≤ length a → item_in (a ++ b) s ≡ item_in a s
in_first a b s h =
    ap₂ item
    (ap (take s.body) (drop-append-le s.start a b (omega (arith, h))) ∙ take-append-le s.body (drop s.start a) b (omega (arith, h, length-drop s.start a)))
    (ap (take s.trail) (drop-append-le (s.start + s.body) a b (omega (arith, h))) ∙ take-append-le s.trail (drop (s.start + s.body) a) b (omega (arith, h, length-drop (s.start + s.body) a)))

past : (a b : Text) (n : ℕ) → length a ≤ n → drop n (a ++ b) ≡ drop (n - length a) b
past a b n h =
    let whole : length a + (n - length a) ≡ n = omega (arith, h) in
    ap (λ m. drop m (a ++ b)) (sym whole) ∙ sym (drop-drop (n - length a) (length a) (a ++ b)) ∙ ap (drop (n - length a)) (drop_at a b (length a) refl)

pub in_second : (a b : Text) (s : Span) → length a ≤ s.start → item_in (a ++ b) s ≡ item (take s.body (drop (s.start - length a) b)) (take s.trail (drop (s.start - length a + s.body) b))
in_second a b s h =
    let after : s.start + s.body - length a ≡ s.start - length a + s.body = omega (arith, h) in
    ap₂ item
    (ap (take s.body) (past a b s.start h))
    (ap (take s.trail) (past a b (s.start + s.body) (omega (arith, h)) ∙ ap (λ n. drop n b) after))

-- bytes that come after those of the second text leave it
pub further : (a b more : Text) (s : Span) → LiesInEither a b s → LiesInEither a (b ++ more) s
further a b more s (inl h) = inl h
further a b more s (inr h) = inr (h.0, omega (arith, h.1, length-append b more))

pub same_further : (a b more : Text) (s : Span) → LiesInEither a b s → item_in (a ++ (b ++ more)) s ≡ item_in (a ++ b) s
same_further a b more s h = ap (λ bytes. item_in bytes s) (sym (append_assoc a b more)) ∙ in_first (a ++ b) more s (ends a b s h)

-- an item whose bytes are put after all others
pub appended_lies : (shared own body trail : Text) (s : Span) → s.start ≡ length shared + length own → s.body ≡ length body → s.trail ≡ length trail
    → LiesInEither shared ((own ++ body) ++ trail) s
appended_lies shared own body trail s at b t = inr (omega (arith, at), omega (arith, at, b, t, length-append (own ++ body) trail, length-append own body))

-- an item is at the place that its span says
pub standing_is : (before body trail rest : Text) (s : Span) → s.start ≡ length before → s.body ≡ length body → s.trail ≡ length trail
    → item_in (before ++ ((body ++ trail) ++ rest)) s ≡ item body trail
standing_is before body trail rest s at b t =
    let bytes : Text = before ++ ((body ++ trail) ++ rest) in
    let first : bytes ≡ before ++ (body ++ (trail ++ rest)) = (simp append_assoc) in
    let second : bytes ≡ (before ++ body) ++ (trail ++ rest) = (simp append_assoc) in
    let longer : length (before ++ body) ≡ s.start + s.body = omega (arith, at, b, length-append before body) in
    ap₂ item
    (ap (take s.body) (ap (drop s.start) first ∙ drop_at before (body ++ (trail ++ rest)) s.start (sym at)) ∙ take_at body (trail ++ rest) s.body (sym b))
    (ap (take s.trail) (ap (drop (s.start + s.body)) second ∙ drop_at (before ++ body) (trail ++ rest) (s.start + s.body) longer) ∙ take_at trail rest s.trail (sym t))

pub appended_is : (shared own body trail : Text) (s : Span) → s.start ≡ length shared + length own → s.body ≡ length body → s.trail ≡ length trail
    → item_in (shared ++ ((own ++ body) ++ trail)) s ≡ item body trail
appended_is shared own body trail s at b t =
    let parts : shared ++ ((own ++ body) ++ trail) ≡ (shared ++ own) ++ ((body ++ trail) ++ []) = (simp append_assoc) ∙ ap (λ (l : Text). shared ++ (own ++ (body ++ l))) (sym (append-nil trail)) ∙ (simp append_assoc) in
    let long : s.start ≡ length (shared ++ own) = omega (arith, at, length-append shared own) in
    ap (λ bytes. item_in bytes s) parts ∙ standing_is (shared ++ own) body trail [] s long b t

-- ---- all of them

pub items_len : (bytes : Text) (spans : List Span) (items : List Item) → items_in bytes spans ≡ items → length items ≡ length spans
items_len bytes spans items e = sym (ap (length {A = Item}) e) ∙ length-map spans (item_in bytes)

pub item_of : (bytes : Text) (spans : List Span) (items : List Item) (k : ℕ) → items_in bytes spans ≡ items → k < length spans → item_at items k ≡ item_in bytes (get_or spans k no_span)
item_of bytes spans items k e h = ap (λ l. item_at l k) (sym e) ∙ get_or-map (item_in bytes) spans k no_span (item [] []) h

pub lies_at : (a b : Text) (spans : List Span) (k : ℕ) → LieInEither a b spans → k < length spans → LiesInEither a b (get_or spans k no_span)
lies_at a b spans k all h = All-get_or (LiesInEither a b) spans k no_span h all

-- one that does not lie in the shared text lies in the own one
pub lies_in_second : (a b : Text) (s : Span) → LiesInEither a b s → length a < span_end s → (length a ≤ s.start) × (span_end s ≤ length a + length b)
lies_in_second a b s (inl h) low = absurd (omega (arith, h, low))
lies_in_second a b s (inr h) low = h

-- item k, whose bytes are in the second text
pub record IsOwn (a b : Text) (items : List Item) (k : ℕ) (s : Span) : Type 0 where
  pub body : take s.body (drop (s.start - length a) b) ≡ (item_at items k).body
  pub trail : take s.trail (drop (s.start - length a + s.body) b) ≡ (item_at items k).trail

pub own_at : (a b : Text) (spans : List Span) (items : List Item) (k : ℕ) (s : Span) → LieInEither a b spans → items_in (a ++ b) spans ≡ items → k < length spans → s ≡ get_or spans k s → length a < span_end s → IsOwn a b items k s
own_at a b spans items k s all e h is low =
    let lies = lies_in_second a b s (subst (LiesInEither a b) (sym is) (All-get_or (LiesInEither a b) spans k s h all)) low in
    let same : item_at items k ≡ item (take s.body (drop (s.start - length a) b)) (take s.trail (drop (s.start - length a + s.body) b))
    = ap (λ l. item_at l k) (sym e) ∙ get_or-map (item_in (a ++ b)) spans k s (item [] []) h ∙ ap (item_in (a ++ b)) (sym is) ∙ in_second a b s lies.0 in
    record { body = sym (ap (λ (i : Item). i.body) same); trail = sym (ap (λ (i : Item). i.trail) same) }

-- they have as many bytes as the spans say
pub weigh : (a b : Text) (spans : List Span) → LieInEither a b spans → length (flat_map kept_bytes (items_in (a ++ b) spans)) ≡ total spans
weigh a b [] all = refl
weigh a b (s ∷ spans) all =
    omega (
      arith,
      length-append (kept_bytes (item_in (a ++ b) s)) (flat_map kept_bytes (items_in (a ++ b) spans)),
      weighs (a ++ b) s (ends a b s (All-head (LiesInEither a b) s spans all)),
      weigh a b spans (All-tail (LiesInEither a b) s spans all),
    )

pub weigh_all : (a b : Text) (spans : List Span) (items : List Item) → LieInEither a b spans → items_in (a ++ b) spans ≡ items → total spans ≡ length (flat_map kept_bytes items)
weigh_all a b spans items all e = sym (weigh a b spans all) ∙ ap (λ l. length (flat_map kept_bytes l)) e

-- if the items are the same, they have as many bytes
pub same_weight : (a b c : Text) (spans places : List Span) → LieInEither a b spans → LieInEither a c places → items_in (a ++ c) places ≡ items_in (a ++ b) spans → total places ≡ total spans
same_weight a b c spans places x y e = weigh_all a c places (items_in (a ++ b) spans) y e ∙ weigh a b spans x

pub weigh_first : (a b : Text) (spans : List Span) (items : List Item) (k : ℕ) → LieInEither a b spans → items_in (a ++ b) spans ≡ items → total (take k spans) ≡ length (flat_map kept_bytes (take k items))
weigh_first a b spans items k all e =
    weigh_all a b (take k spans) (take k items) (All-take (LiesInEither a b) k spans all) (sym (take-map (item_in (a ++ b)) k spans) ∙ ap (take k) e)

-- ---- spans that come and go

pub insert_is : (bytes : Text) (spans : List Span) (k : ℕ) (s : Span) → items_in bytes (insert spans k s) ≡ insert (items_in bytes spans) k (item_in bytes s)
insert_is bytes spans k s =
    map-append (item_in bytes) (take k spans) (s ∷ drop k spans)
    ∙ ap₂ (λ (x y : List Item). x ++ item_in bytes s ∷ y) (sym (take-map (item_in bytes) k spans)) (sym (drop-map (item_in bytes) k spans))

pub insert_lies : (a b : Text) (spans : List Span) (k : ℕ) (s : Span) → LieInEither a b spans → LiesInEither a b s → LieInEither a b (insert spans k s)
insert_lies a b spans k s all h =
    All-append (LiesInEither a b) (take k spans) (s ∷ drop k spans) (All-take (LiesInEither a b) k spans all) (All-cons (LiesInEither a b) s (drop k spans) h (All-drop (LiesInEither a b) k spans all))

pub remove_is : (bytes : Text) (spans : List Span) (k : ℕ) → items_in bytes (remove spans k) ≡ remove (items_in bytes spans) k
remove_is bytes spans k =
    map-append (item_in bytes) (take k spans) (drop (suc k) spans)
    ∙ ap₂ (λ (x y : List Item). x ++ y) (sym (take-map (item_in bytes) k spans)) (sym (drop-map (item_in bytes) (suc k) spans))

pub remove_lies : (a b : Text) (spans : List Span) (k : ℕ) → LieInEither a b spans → LieInEither a b (remove spans k)
remove_lies a b spans k all =
    All-append (LiesInEither a b) (take k spans) (drop (suc k) spans) (All-take (LiesInEither a b) k spans all) (All-drop (LiesInEither a b) (suc k) spans all)

-- ---- own bytes that come

pub all_further : (a old new : Text) (spans : List Span) → LieInEither a old spans → Extends old new → LieInEither a new spans
all_further a old new spans all e =
    All-weaker (LiesInEither a old) (LiesInEither a new) (λ s h. subst (λ t. LiesInEither a t s) (sym e.is) (further a old e.more s h)) spans all

pub items_further : (a old new : Text) (spans : List Span) → LieInEither a old spans → Extends old new → items_in (a ++ new) spans ≡ items_in (a ++ old) spans
items_further a old new [] all e = refl
items_further a old new (s ∷ spans) all e =
    ap₂ (λ i l. i ∷ l)
    (ap (λ t. item_in (a ++ t) s) e.is ∙ same_further a old e.more s (All-head (LiesInEither a old) s spans all))
    (items_further a old new spans (All-tail (LiesInEither a old) s spans all) e)

-- the items are the same with more own bytes
pub same_items : (a old new : Text) (spans : List Span) (items was : List Item) → LieInEither a old spans → Extends old new → items_in (a ++ old) spans ≡ items → items ≡ was → items_in (a ++ new) spans ≡ was
same_items a old new spans items was all e is same = items_further a old new spans all e ∙ is ∙ same

-- an item comes with own bytes
pub more_items : (a old new : Text) (spans : List Span) (k : ℕ) (s : Span) (i : Item) (items was : List Item) → LieInEither a old spans → Extends old new → items_in (a ++ old) spans ≡ items → items ≡ was → item_in (a ++ new) s ≡ i
    → items_in (a ++ new) (insert spans k s) ≡ insert was k i
more_items a old new spans k s i items was all e is same one =
    insert_is (a ++ new) spans k s ∙ ap₂ (λ (l : List Item) (x : Item). insert l k x) (same_items a old new spans items was all e is same) one

pub other_items : (a old new : Text) (spans : List Span) (k : ℕ) (s : Span) (i : Item) (items was : List Item) → LieInEither a old spans → Extends old new → items_in (a ++ old) spans ≡ items → items ≡ was → item_in (a ++ new) s ≡ i
    → items_in (a ++ new) (set spans k s) ≡ set was k i
other_items a old new spans k s i items was all e is same one =
    map-set (item_in (a ++ new)) spans k s ∙ ap₂ (λ (l : List Item) (x : Item). set l k x) (same_items a old new spans items was all e is same) one

pub more_lie : (a old new : Text) (spans : List Span) (k : ℕ) (s : Span) → LieInEither a old spans → Extends old new → LiesInEither a new s → LieInEither a new (insert spans k s)
more_lie a old new spans k s all e h = insert_lies a new spans k s (all_further a old new spans all e) h

pub other_lie : (a old new : Text) (spans : List Span) (k : ℕ) (s : Span) → LieInEither a old spans → Extends old new → LiesInEither a new s → LieInEither a new (set spans k s)
other_lie a old new spans k s all e h = All-set (LiesInEither a new) spans k s h (all_further a old new spans all e)

-- ---- own bytes that are given back

-- the first n items lie in the shared text and in these own bytes
pub record AreKept (shared own : Text) (spans : List Span) (n : ℕ) (kept : Text) (places : List Span) : Type 0 where
  pub same : items_in (shared ++ kept) places ≡ items_in (shared ++ own) (take n spans)
  pub lie : LieInEither shared kept places

pub kept_none : (shared own : Text) (spans : List Span) → AreKept shared own spans 0 [] []
kept_none shared own spans = record { same = refl; lie = All-nil (LiesInEither shared []) }

pub kept_more : (shared own : Text) (spans : List Span) (n : ℕ) (kept new : Text) (places : List Span) (t : Span) → n < length spans → AreKept shared own spans n kept places
    → Extends kept new → LiesInEither shared new t → item_in (shared ++ new) t ≡ item_in (shared ++ own) (get_or spans n no_span) → AreKept shared own spans (n + 1) new (places ++ t ∷ [])
kept_more shared own spans n kept new places t h k e lies same = record {
  same =
      map-append (item_in (shared ++ new)) places (t ∷ [])
      ∙ ap₂ (λ (l : List Item) (i : Item). l ++ i ∷ []) (items_further shared kept new places k.lie e ∙ k.same) same
      ∙ sym (ap (items_in (shared ++ own)) (take_more spans n no_span h) ∙ map-append (item_in (shared ++ own)) (take n spans) (get_or spans n no_span ∷ []));
  lie = All-push (LiesInEither shared new) places t (all_further shared kept new places k.lie e) lies;
}

pub kept_all : (shared own : Text) (spans : List Span) (n : ℕ) (kept : Text) (places : List Span) → length spans ≤ n → AreKept shared own spans n kept places → items_in (shared ++ kept) places ≡ items_in (shared ++ own) spans
kept_all shared own spans n kept places h k = k.same ∙ ap (items_in (shared ++ own)) (take_all n spans h)
