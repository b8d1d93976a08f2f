-- Positions that are counted item by item.
use Rattle.bib_answers.proofs.Words.{⊎_elim, ◌≡◌, ◌∙◌, ℕ, ◌+◌, ◌-◌, ◌≤◌, ◌<◌, ◌^◌, List, [], ◌∷◌, ◌++◌, length, take, drop, fold, min, Some, slice_get, slice_get-map, option_map, refl, sym, ap, ap₂, subst, append_assoc, take_all, Text, Item, Reading, Position, position, position_after, OfReading, View, view_of}
use Rattle.std.proofs.Common.{slice_index_or, ◌⊎◌, inl, inr, arith, append-nil, length-append, drop-drop}
use Rattle.std.specs.List.{flat_map}
use Rattle.std.proofs.Math.Seq.{take-add, take-append_seam, drop-append_seam}
use Rattle.std.proofs.lemmas.Bool.{cases_lt}
use Rattle.std.proofs.lemmas.Option.{get_or_from_slice_get, slice_get_within}
use Rattle.std.proofs.lemmas.List.{length-take, length-drop, take-take, drop-take, take-append-drop, drop_more}
use Rattle.std.proofs.lemmas.List.Sums.{fold-append}
use Rattle.std.proofs.lemmas.Grind.{flat_map-append}
use Rattle.bib_spec.specs.Bytes.{file_limit}
use Rattle.bib_spec.specs.Tree.{tree_bytes}
use Rattle.bib_spec.specs.Reading.{Reads, item_bytes, bytes_of}
use Rattle.bib_scan.specs.Layout.{start_of}
use Rattle.bib_scan.proofs.ReadingLaws.{start_more}
use Rattle.bib_store.specs.Readings.{IsItemNumber}
use Rattle.bib_spec.specs.Texts.{IsOpenable}
use Rattle.bib_extract.proofs.WrittenItems.{slice_get-within}
use Rattle.bib_shelf.specs.Joined.{files_in}
use Rattle.bib_answers.specs.Walking.{IsSpot, clip, stretch}
use Rattle.bib_answers.specs.declared.walking.Spot.{Spot}
use Rattle.bib_answers.proofs.PositionSteps.{near}

-- ---- stretches

-- the bytes up to a place, and those from there on
stretch-split : (s m e : ℕ) (text : Text) → s ≤ m → m ≤ e → stretch s e text ≡ stretch s m text ++ stretch m e text
stretch-split s m e text low high =
    ap (λ n. take n (drop s text)) (let it : e - s ≡ (m - s) + (e - m) = omega (arith, low, high) in it)
    ∙ take-add (m - s) (e - m) (drop s text)
    ∙ ap (λ t. take (m - s) (drop s text) ++ take (e - m) t) (drop-drop (m - s) s text ∙ ap (λ n. drop n text) (let it : s + (m - s) ≡ m = omega (arith, low) in it))

-- no bytes
stretch-none : (s e : ℕ) (text : Text) → e ≤ s → stretch s e text ≡ []
stretch-none s e text le = ap (λ n. take n (drop s text)) (let it : e - s ≡ 0 = omega (arith, le) in it)

-- what a chunk has of a stretch of the text, where the chunk is all of the text from `k` up to `k + length chunk`
chunk_in : (k s e : ℕ) (chunk text : Text) → stretch k (k + length chunk) text ≡ chunk → s ≤ e → e ≤ length chunk → stretch s e chunk ≡ stretch (k + s) (k + e) text
chunk_in k s e chunk text is low high =
    ap (stretch s e) (sym is)
    ∙ ap (λ n. take (e - s) (drop s (take n (drop k text)))) (let it : (k + length chunk) - k ≡ s + (length chunk - s) = omega (arith, low, high) in it)
    ∙ ap (take (e - s)) (drop-take s (length chunk - s) (drop k text))
    ∙ take-take (e - s) (length chunk - s) (drop s (drop k text)) (omega (arith, low, high))
    ∙ ap₂ (λ n t. take n t) (let it : e - s ≡ (k + e) - (k + s) = omega arith in it) (drop-drop s k text)

append_nothing : (a b : Text) → b ≡ [] → a ++ b ≡ a
append_nothing a b none = ap (λ t. a ++ t) none ∙ append-nil a

-- what comes up to the end of a chunk is what comes up to its beginning, and what the chunk has
pub chunk_more : (k s e : ℕ) (chunk text : Text) → stretch k (k + length chunk) text ≡ chunk → stretch s (min (k + length chunk) e) text ≡ stretch s (min k e) text ++ clip (s - k) (e - k) chunk
chunk_more k s e chunk text is = ⊎_elim
    (λ (on : k < e). ⊎_elim
    (λ (inside : s < k + length chunk). ⊎_elim
    (λ (after : k < s). ⊎_elim (λ (some : s < e). after_begun on inside after some) (λ (late : e ≤ s). nothing (omega (arith, late)) (omega (arith, late)) (omega (arith, late, after))) (cases_lt s e))
    (λ (before : s ≤ k). from_begin on before)
    (cases_lt k s))
    (λ (over : k + length chunk ≤ s). nothing (omega (arith, over)) (omega (arith, over)) (omega (arith, over)))
    (cases_lt s (k + length chunk)))
    (λ (early : e ≤ k). same early)
    (cases_lt k e)
  where
    -- the stretch has nothing of the chunk, and nothing comes before it
    nothing : min (k + length chunk) e ≤ s → min k e ≤ s → min (e - k) (length chunk) ≤ min (s - k) (length chunk) → stretch s (min (k + length chunk) e) text ≡ stretch s (min k e) text ++ clip (s - k) (e - k) chunk
    nothing all before none =
        stretch-none s (min (k + length chunk) e) text all
        ∙ sym (stretch-none s (min k e) text before)
        ∙ sym (append_nothing (stretch s (min k e) text) (clip (s - k) (e - k) chunk) (stretch-none (min (s - k) (length chunk)) (min (e - k) (length chunk)) chunk none))

    -- the stretch ends before the chunk
    same : e ≤ k → stretch s (min (k + length chunk) e) text ≡ stretch s (min k e) text ++ clip (s - k) (e - k) chunk
    same early =
        ap (λ n. stretch s n text) (let it : min (k + length chunk) e ≡ min k e = omega (arith, early) in it)
        ∙ sym (append_nothing (stretch s (min k e) text) (clip (s - k) (e - k) chunk) (stretch-none (min (s - k) (length chunk)) (min (e - k) (length chunk)) chunk (omega (arith, early))))

    -- the stretch begins before the chunk
    from_begin : k < e → s ≤ k → stretch s (min (k + length chunk) e) text ≡ stretch s (min k e) text ++ clip (s - k) (e - k) chunk
    from_begin on before =
        ap (λ n. stretch s n text) (let it : min (k + length chunk) e ≡ k + min (e - k) (length chunk) = omega (arith, on) in it)
        ∙ stretch-split s k (k + min (e - k) (length chunk)) text before (omega arith)
        ∙ ap₂ (λ (a b : Text). a ++ b) (ap (λ n. stretch s n text) (let it : k ≡ min k e = omega (arith, on) in it))
        (ap (λ n. stretch n (k + min (e - k) (length chunk)) text) (let it : k ≡ k + 0 = omega arith in it)
        ∙ sym (chunk_in k 0 (min (e - k) (length chunk)) chunk text is (omega arith) (omega arith))
        ∙ ap (λ n. stretch n (min (e - k) (length chunk)) chunk) (let it : 0 ≡ min (s - k) (length chunk) = omega (arith, before) in it))

    -- the stretch begins in the chunk
    after_begun : k < e → s < k + length chunk → k < s → s < e → stretch s (min (k + length chunk) e) text ≡ stretch s (min k e) text ++ clip (s - k) (e - k) chunk
    after_begun on inside after some =
        ap₂ (λ a b. stretch a b text) (let it : s ≡ k + min (s - k) (length chunk) = omega (arith, after, inside) in it) (let it : min (k + length chunk) e ≡ k + min (e - k) (length chunk) = omega (arith, on) in it)
        ∙ sym (chunk_in k (min (s - k) (length chunk)) (min (e - k) (length chunk)) chunk text is (omega (arith, some)) (omega arith))
        ∙ ap (λ t. t ++ clip (s - k) (e - k) chunk) (sym (stretch-none s (min k e) text (omega (arith, after))))

-- ---- positions

-- the position after one more chunk
pub past_more : (from at next : Position) (k s e : ℕ) (chunk text : Text) → stretch k (k + length chunk) text ≡ chunk → at ≡ fold position_after from (stretch s (min k e) text)
    → next ≡ fold position_after at (clip (s - k) (e - k) chunk) → next ≡ fold position_after from (stretch s (min (k + length chunk) e) text)
past_more from at next k s e chunk text is before more =
    more
    ∙ ap (λ (p : Position). fold position_after p (clip (s - k) (e - k) chunk)) before
    ∙ sym (fold-append position_after from (stretch s (min k e) text) (clip (s - k) (e - k) chunk))
    ∙ ap (fold position_after from) (sym (chunk_more k s e chunk text is))

-- the numbers of a position after few bytes are small
pub small_numbers : (at : Position) (before piece : Text) → length before ≤ 2 ^ 32 → length piece ≤ file_limit → at ≡ fold position_after (position 1 1) before
    → (at.line + length piece < 2 ^ 64) × (at.column + length piece < 2 ^ 64)
small_numbers at before piece few short is =
    let close = near before (position 1 1) (omega arith) in
    let line : at.line ≡ (fold position_after (position 1 1) before).line = ap (λ (p : Position). p.line) is in
    let column : at.column ≡ (fold position_after (position 1 1) before).column = ap (λ (p : Position). p.column) is in
    (omega (arith, close.0, line, few, short), omega (arith, close.1, column, few, short))

pub clip_short : (s e : ℕ) (chunk : Text) → length (clip s e chunk) ≤ length chunk
clip_short s e chunk =
    let one = length-take (min e (length chunk) - min s (length chunk)) (drop (min s (length chunk)) chunk) in
    let two = length-drop (min s (length chunk)) chunk in
    omega (arith, one, two)

pub stretch_short : (s e : ℕ) (text : Text) → length (stretch s e text) ≤ length text
stretch_short s e text = let one = length-take (e - s) (drop s text) in let two = length-drop s text in omega (arith, one, two)

-- more bytes after those before
pub longer : (at next : Position) (before piece : Text) → at ≡ fold position_after (position 1 1) before → next ≡ fold position_after at piece → next ≡ fold position_after (position 1 1) (before ++ piece)
longer at next before piece is more = more ∙ ap (λ (p : Position). fold position_after p piece) is ∙ sym (fold-append position_after (position 1 1) before piece)

-- ---- items

-- the bytes before an item, and from there on
split_at_item : (db : Reading) (n : ℕ) (i : Item) → slice_get db.items n ≡ Some i
    → bytes_of db ≡ (db.front ++ flat_map item_bytes (take n db.items)) ++ (item_bytes i ++ flat_map item_bytes (drop (n + 1) db.items))
split_at_item db n i at =
    ap (λ (l : List Item). db.front ++ flat_map item_bytes l) (sym (take-append-drop n db.items))
    ∙ ap (λ t. db.front ++ t) (flat_map-append item_bytes (take n db.items) (drop n db.items))
    ∙ sym (append_assoc db.front (flat_map item_bytes (take n db.items)) (flat_map item_bytes (drop n db.items)))
    ∙ ap (λ (l : List Item). (db.front ++ flat_map item_bytes (take n db.items)) ++ flat_map item_bytes l)
    (drop_more db.items n i (slice_get_within db.items n i at) ∙ ap (λ (x : Item). x ∷ drop (n + 1) db.items) (get_or_from_slice_get db.items n i i at))

-- the bytes from an item on
from_item : (db : Reading) (n : ℕ) (i : Item) → slice_get db.items n ≡ Some i → drop (start_of db n) (bytes_of db) ≡ item_bytes i ++ flat_map item_bytes (drop (n + 1) db.items)
from_item db n i at =
    ap₂ (λ k t. drop k t) (sym (length-append db.front (flat_map item_bytes (take n db.items)))) (split_at_item db n i at)
    ∙ drop-append_seam (db.front ++ flat_map item_bytes (take n db.items)) (item_bytes i ++ flat_map item_bytes (drop (n + 1) db.items))

-- an item ends in the file
item_fits : (file : Text) (db : Reading) (n place : ℕ) (i : Item) → Reads file db → slice_get db.items n ≡ Some i → place ≡ start_of db n
    → (place + length (tree_bytes i.tree)) + length i.trail ≤ length file
item_fits file db n place i reads at is =
    let whole = ap length (sym reads.bytes ∙ split_at_item db n i at) in
    let one = length-append (db.front ++ flat_map item_bytes (take n db.items)) (item_bytes i ++ flat_map item_bytes (drop (n + 1) db.items)) in
    let two = length-append db.front (flat_map item_bytes (take n db.items)) in
    let three = length-append (item_bytes i) (flat_map item_bytes (drop (n + 1) db.items)) in
    let four = length-append (tree_bytes i.tree) i.trail in
    omega (arith, whole, one, two, three, four, is)

-- a text that comes next is the stretch of its length
front_stretch : (k : ℕ) (chunk rest text : Text) → drop k text ≡ chunk ++ rest → stretch k (k + length chunk) text ≡ chunk
front_stretch k chunk rest text is =
    ap₂ (λ n t. take n t) (let it : (k + length chunk) - k ≡ length chunk = omega arith in it) is ∙ take-append_seam chunk rest

body_stretch : (file : Text) (db : Reading) (n place : ℕ) (i : Item) → Reads file db → slice_get db.items n ≡ Some i → place ≡ start_of db n → stretch place (place + length (tree_bytes i.tree)) file ≡ tree_bytes i.tree
body_stretch file db n place i reads at is =
    front_stretch place (tree_bytes i.tree) (i.trail ++ flat_map item_bytes (drop (n + 1) db.items)) file
    (ap₂ (λ k t. drop k t) is (sym reads.bytes) ∙ from_item db n i at ∙ append_assoc (tree_bytes i.tree) i.trail (flat_map item_bytes (drop (n + 1) db.items)))

trail_stretch : (file : Text) (db : Reading) (n place : ℕ) (i : Item) → Reads file db → slice_get db.items n ≡ Some i → place ≡ start_of db n
    → stretch (place + length (tree_bytes i.tree)) ((place + length (tree_bytes i.tree)) + length i.trail) file ≡ i.trail
trail_stretch file db n place i reads at is =
    front_stretch (place + length (tree_bytes i.tree)) i.trail (flat_map item_bytes (drop (n + 1) db.items)) file
    (sym (drop-drop (length (tree_bytes i.tree)) place file)
    ∙ ap (drop (length (tree_bytes i.tree))) (ap₂ (λ k t. drop k t) is (sym reads.bytes) ∙ from_item db n i at ∙ append_assoc (tree_bytes i.tree) i.trail (flat_map item_bytes (drop (n + 1) db.items)))
    ∙ drop-append_seam (tree_bytes i.tree) (i.trail ++ flat_map item_bytes (drop (n + 1) db.items)))

-- the spot of the next item
spot_next : (db : Reading) (n place : ℕ) (i : Item) (next : Spot) → slice_get db.items n ≡ Some i → place ≡ start_of db n → next.n ≡ n + 1
    → next.place ≡ (place + length (tree_bytes i.tree)) + length i.trail → IsSpot db next
spot_next db n place i next at is number ends =
    let within : n < length db.items = slice_get_within db.items n i at in
    let more = start_more db n i (drop (n + 1) db.items) (drop_more db.items n i within ∙ ap (λ (x : Item). x ∷ drop (n + 1) db.items) (get_or_from_slice_get db.items n i i at)) in
    let bytes = length-append (tree_bytes i.tree) i.trail in
    let same = ap (start_of db) number in
    record {
      within = omega (arith, number, within);
      place = let it : next.place ≡ start_of db (n + 1) = omega (arith, ends, is, more, bytes) in it ∙ sym same;
    }

-- the front is the first chunk
front_is : (file : Text) (db : Reading) → Reads file db → stretch 0 (0 + length db.front) file ≡ db.front
front_is file db reads = front_stretch 0 db.front (flat_map item_bytes db.items) file (sym reads.bytes)

-- after the last item, the file ends
ends_there : (file : Text) (db : Reading) (n : ℕ) → Reads file db → length db.items ≤ n → start_of db n ≡ length file
ends_there file db n reads all =
    ap (λ (l : List Item). length db.front + length (flat_map item_bytes l)) (take_all n db.items all) ∙ sym (length-append db.front (flat_map item_bytes db.items)) ∙ ap length reads.bytes

-- the stretches that end at the same count of bytes from their beginning
same_stretch : (s a b : ℕ) (text : Text) → a - s ≡ b - s → stretch s a text ≡ stretch s b text
same_stretch s a b text is = ap (λ n. take n (drop s text)) is

-- what is known of an item of an open file that begins at this place and has this body and this trail
pub record IsItemAt (file : Text) (n place : ℕ) (body trail : Text) : Type 0 where
  pub body_is : stretch place (place + length body) file ≡ body
  pub trail_is : stretch (place + length body) ((place + length body) + length trail) file ≡ trail
  pub fits : (place + length body) + length trail ≤ length file
  pub short : length file ≤ file_limit
  pub next : OfReading file (λ r. IsSpot r (record { n = n + 1; place = (place + length body) + length trail }))

pub item_at : (file : Text) (spot : Spot) (view : View) (body trail : Text) → IsOpenable file → IsItemNumber file spot.n → OfReading file (λ r. IsSpot r spot)
    → OfReading file (λ r. (i : Item) → slice_get r.items spot.n ≡ Some i → view ≡ view_of i) → body ≡ view.body → trail ≡ view.trail → IsItemAt file spot.n spot.place body trail
item_at file spot view body trail opened number is viewed bodied trailed =
    let r = opened.0 in
    let reads = opened.1.reads in
    let one = slice_get-within r.items spot.n (number r reads) in
    let i = one.0 in
    let seen = viewed r reads i one.1 in
    let whole : body ≡ tree_bytes i.tree = bodied ∙ ap (λ (v : View). v.body) seen in
    let rest : trail ≡ i.trail = trailed ∙ ap (λ (v : View). v.trail) seen in
    let place = (is r reads).place in
    subst (λ (b : Text). IsItemAt file spot.n spot.place b trail) (sym whole)
    (subst (λ (t : Text). IsItemAt file spot.n spot.place (tree_bytes i.tree) t) (sym rest)
    (record {
      body_is = body_stretch file r spot.n spot.place i reads one.1 place;
      trail_is = trail_stretch file r spot.n spot.place i reads one.1 place;
      fits = item_fits file r spot.n spot.place i reads one.1 place;
      short = opened.1.short;
      next = λ db reading.
          let other = slice_get-within db.items spot.n (number db reading) in
          let same = sym (viewed db reading other.0 other.1) ∙ seen in
          let bodies : tree_bytes (other.0).tree ≡ tree_bytes i.tree = ap (λ (v : View). v.body) same in
          let trails : (other.0).trail ≡ i.trail = ap (λ (v : View). v.trail) same in
          spot_next db spot.n spot.place other.0 (record { n = spot.n + 1; place = (spot.place + length (tree_bytes i.tree)) + length i.trail }) other.1 (is db reading).place refl
          (ap₂ (λ (b t : Text). (spot.place + length b) + length t) (sym bodies) (sym trails));
    }))

-- the same, of item n by its view
pub item_here : (file : Text) (n place : ℕ) (view : View) → IsOpenable file → IsItemNumber file n → OfReading file (λ r. place ≡ start_of r n)
    → OfReading file (λ r. (i : Item) → slice_get r.items n ≡ Some i → view ≡ view_of i) → IsItemAt file n place view.body view.trail
item_here file n place view opened number begins viewed =
    item_at file (record { n = n; place = place }) view view.body view.trail opened number
    (λ r reads. record { within = let few = number r reads in omega (arith, few); place = begins r reads }) viewed refl refl

-- the position before the first item of a walk
pub begun : (file : Text) (from at : Position) (start end : ℕ) (front : Text) (spot : Spot) → IsOpenable file → OfReading file (λ r. front ≡ r.front)
    → OfReading file (λ r. (end : ℕ) → min spot.place end - start ≡ min (length r.front) end - start) → at ≡ fold position_after from (clip (start - 0) (end - 0) front)
    → at ≡ fold position_after from (stretch start (min spot.place end) file)
begun file from at start end front spot opened is first after =
    let r = opened.0 in
    let reads = opened.1.reads in
    past_more from from at 0 start end front file
    (subst (λ (f : Text). stretch 0 (0 + length f) file ≡ f) (sym (is r reads)) (front_is file r reads))
    (ap (fold position_after from) (sym (stretch-none start (min 0 end) file (omega arith)))) after
    ∙ ap (fold position_after from)
    (ap (λ (f : Text). stretch start (min (0 + length f) end) file) (is r reads)
    ∙ same_stretch start (min (0 + length r.front) end) (min spot.place end) file (let it = first r reads end in omega (arith, it)))

pub front_short : (file front : Text) → IsOpenable file → OfReading file (λ r. front ≡ r.front) → length front ≤ file_limit
front_short file front opened is =
    let r = opened.0 in
    let same = ap length (is r opened.1.reads) in
    let whole = ap length (opened.1.reads).bytes in
    let parts = length-append r.front (flat_map item_bytes r.items) in
    let short = opened.1.short in
    omega (arith, same, whole, parts, short)

-- the position after the last item of a walk
pub walked : (file : Text) (from at : Position) (start end count : ℕ) (spot : Spot) → IsOpenable file → OfReading file (λ r. count ≡ length r.items) → OfReading file (λ r. IsSpot r spot)
    → end ≤ length file → (count ≤ spot.n) ⊎ (end ≤ spot.place) → at ≡ fold position_after from (stretch start (min spot.place end) file) → at ≡ fold position_after from (stretch start end file)
walked file from at start end count spot opened counted is within over before = before ∙ ap (λ n. fold position_after from (stretch start n file)) (reached over)
  where
    reached : (count ≤ spot.n) ⊎ (end ≤ spot.place) → min spot.place end ≡ end
    reached (inl all) =
        let r = opened.0 in
        let place = (is r opened.1.reads).place in
        let last = ends_there file r spot.n opened.1.reads (let c = counted r opened.1.reads in omega (arith, c, all)) in
        omega (arith, place, last, within)
    reached (inr far) = omega (arith, far)

-- a stretch of a stretch
pub inner_stretch : (first last s e : ℕ) (text : Text) → s ≤ e → e ≤ last - first → stretch (first + s) (first + e) text ≡ take (e - s) (drop s (stretch first last text))
inner_stretch first last s e text low high =
    ap₂ (λ n t. take n t) (let it : (first + e) - (first + s) ≡ e - s = omega arith in it) (sym (drop-drop s first text))
    ∙ sym (take-take (e - s) ((last - first) - s) (drop s (drop first text)) (omega (arith, low, high)))
    ∙ ap (take (e - s)) (sym (drop-take s ((last - first) - s) (drop first text)))
    ∙ ap (λ n. take (e - s) (drop s (take n (drop first text)))) (let it : s + ((last - first) - s) ≡ last - first = omega (arith, low, high) in it)

pub length_stretch : (first last : ℕ) (text : Text) → first ≤ last → last ≤ length text → length (stretch first last text) ≡ last - first
length_stretch first last text low high = let one = length-take (last - first) (drop first text) in let two = length-drop first text in omega (arith, one, two, low, high)

-- the file with this span
pub file_at_span : (spans : List (ℕ × ℕ)) (text : Text) (i : ℕ) (s : ℕ × ℕ) → slice_get spans i ≡ Some s → slice_index_or (files_in spans text) i [] ≡ stretch s.0 s.1 text
file_at_span spans text i s at =
    get_or_from_slice_get (files_in spans text) i (stretch s.0 s.1 text) []
    (slice_get-map (λ (span : ℕ × ℕ). take (span.1 - span.0) (drop span.0 text)) spans i ∙ ap (option_map (λ (span : ℕ × ℕ). take (span.1 - span.0) (drop span.0 text))) at)
