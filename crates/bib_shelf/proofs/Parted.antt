-- A shelf whose reading has an item at each seam: each file has a reading.
use Rattle.std.proofs.Common.{◌≡◌, ℕ, suc, ◌+◌, ◌-◌, ◌<◌, ◌≤◌, List, [], ◌∷◌, ◌++◌, codes, length, take, drop, refl, sym, ◌∙◌, ap, ap₂, subst, ⊎_elim, inl, inr, arith, zero-add, append_assoc, length-append}
use Rattle.std.proofs.lemmas.Bool.{cases_lt}
use Rattle.std.specs.List.{flat_map}
use Rattle.std.proofs.lemmas.List.{take-append-drop}
use Rattle.std.proofs.lemmas.List.Concat.{flat_map-append}
use Rattle.std.proofs.lemmas.List.Elements.{All-head, All-tail, All-take, All-drop}
use Rattle.std.proofs.Math.Seq.{take-append_seam, drop-append_seam, length-take-le}
use Rattle.bib_spec.specs.Bytes.{name_limit}
use Rattle.bib_spec.specs.Text.{Text}
use Rattle.bib_spec.specs.Clean.{IsClean}
use Rattle.bib_spec.specs.Tree.{CommentTree, tree_bytes}
use Rattle.bib_spec.specs.Reading.{Item, Reading, Reads, IsItem, item_bytes, bytes_of}
use Rattle.bib_scan.specs.Layout.{start_of}
use Rattle.bib_scan.specs.ReadSoFar.{Next}
use Rattle.bib_scan.proofs.CleanLaws.{clean_nil, begins_sign}
use Rattle.bib_scan.proofs.ReadingLaws.{ends_more, items_next}
use Rattle.bib_scan.proofs.UniqueLaws.{tail_same}
use Rattle.bib_scan.proofs.OneReading.{tree_unique}
use Rattle.bib_store.proofs.RowTexts.{nil_cons}
use Rattle.shelf_spec.specs.Shelf.{seam, seam_head, seam_item, shelf_text, with_seam}
use Rattle.shelf_spec.specs.Numbers.{first_place}
use Rattle.shelf_spec.proofs.ShelfReads.{seam_ends, seam_is_comment}
use Rattle.shelf_spec.proofs.ShelfPlaces.{are_placed}
use Rattle.bib_shelf.specs.Items.{BeginsAt}
use Rattle.bib_shelf.specs.Laws.{parted_files_read}
use Rattle.bib_shelf.proofs.Searches.{begins_no_later}

-- ---- a text that is cut where an item begins

-- the reading of the text before item n, and that of the text from it on
pub record AreCut (a b : Text) (db : Reading) (n : ℕ) : Type 0 where
  pub before : Reads a (record { front = db.front; items = take n db.items })
  pub from : Reads b (record { front = []; items = drop n db.items })

cut : (a b : Text) (db : Reading) (n : ℕ) → Reads (a ++ b) db → n ≤ length db.items → start_of db n ≡ length a → AreCut a b db n
cut a b db n reads within starts =
    let F = flat_map item_bytes in
    let first : Text = db.front ++ F (take n db.items) in
    let last : Text = F (drop n db.items) in
    let whole : first ++ last ≡ a ++ b =
    append_assoc db.front (F (take n db.items)) last
    ∙ ap (λ t. db.front ++ t) (sym (flat_map-append item_bytes (take n db.items) (drop n db.items)) ∙ ap F (take-append-drop n db.items))
    ∙ reads.bytes in
    let len : length first ≡ length a = length-append db.front (F (take n db.items)) ∙ starts in record {
      before = record {
        bytes = sym (take-append_seam first last) ∙ ap₂ take len whole ∙ take-append_seam a b;
        front = reads.front;
        items = All-take (IsItem name_limit) n db.items reads.items;
      };
      from = record {
        bytes = sym (drop-append_seam first last) ∙ ap₂ drop len whole ∙ drop-append_seam a b;
        front = clean_nil;
        items = All-drop (IsItem name_limit) n db.items reads.items;
      };
    }

-- ---- a text that begins with a seam

-- where a command or nothing comes next, no other byte does
next_sign : (r : Text) (w : ℕ) (b : Text) → Next r → r ≡ w ∷ b → w ≡ 64
next_sign r w b (inl none) is = absurd (nil_cons w b (sym none ∙ is))
next_sign r w b (inr here) is = let sign = begins_sign r here in same_head w 64 b sign.0 (sym is ∙ sign.1)
  where
    same_head : (x y : ℕ) (t u : Text) → x ∷ t ≡ y ∷ u → x ≡ y
    same_head x y t u e = cc

-- a text with this byte before its next command begins with the byte
past_byte : (w : ℕ) (u r b : Text) → Next r → (w ≡ 64 → ⊥) → u ++ r ≡ w ∷ b → (t : Text) × (u ≡ w ∷ t) × (t ++ r ≡ b)
past_byte w [] r b next other is = absurd (other (next_sign r w b next is))
past_byte w (c ∷ u) r b next other is = (u, same_byte (u ++ r) is, tail_same c w (u ++ r) b is)
  where
    same_byte : (t : Text) → c ∷ t ≡ w ∷ b → c ∷ u ≡ w ∷ u
    same_byte t e = cc

seam_before : (u v w t : Text) → u ≡ 32 ∷ v → v ≡ 37 ∷ w → w ≡ 10 ∷ t → u ≡ codes " %\n" ++ t
seam_before u v w t space percent feed = space ∙ ap (λ x. 32 ∷ x) (percent ∙ ap (λ x. 37 ∷ x) feed)

-- the text after a seam's end is clean if the whole trail is
clean_after : (u t : Text) → u ≡ codes " %\n" ++ t → IsClean u → IsClean t
clean_after u t is clean = let all = subst IsClean is clean in λ p. all (suc (suc (suc p)))

-- what a text with a seam before it is read as: the seam's item, and the rest
pub record IsAfterSeam (b : Text) (items : List Item) : Type 0 where
  pub rest : Reading
  pub items_are : items ≡ seam_item rest.front ∷ rest.items
  pub reads : Reads b rest

after_seam : (b : Text) (items : List Item) → Reads (seam ++ b) (record { front = []; items = items }) → IsAfterSeam b items
after_seam b [] reads = absurd (nil_cons 64 (codes "comment %\n" ++ b) reads.bytes)
after_seam b (i ∷ rest) reads =
    let F = flat_map item_bytes in
    let is = All-head (IsItem name_limit) i rest reads.items in
    let later = All-tail (IsItem name_limit) i rest reads.items in
    let next = items_next name_limit rest later in
    let one = tree_unique name_limit i.tree (CommentTree seam_head) (i.trail ++ F rest) (codes " %\n" ++ b) is.tree seam_is_comment
    (ends_more i.tree i.trail (F rest) is.trail.ends_name next) (λ e. seam_ends b)
    (sym (append_assoc (tree_bytes i.tree) i.trail (F rest)) ∙ reads.bytes) in
    let space = past_byte 32 i.trail (F rest) (37 ∷ 10 ∷ b) next (λ e. absurd (omega (arith, e))) one.1 in
    let percent = past_byte 37 space.0 (F rest) (10 ∷ b) next (λ e. absurd (omega (arith, e))) space.2 in
    let feed = past_byte 10 percent.0 (F rest) b next (λ e. absurd (omega (arith, e))) percent.2 in
    let trail = seam_before i.trail space.0 percent.0 feed.0 space.1 percent.1 feed.1 in record {
      rest = record { front = feed.0; items = rest };
      items_are = λ k. record { tree = one.0 k; trail = trail k } ∷ rest;
      reads = record { bytes = feed.2; front = clean_after i.trail feed.0 trail is.trail.clean; items = later };
    }

-- ---- a shelf

-- the reading of the first file, and that of the files after it
pub record AreApart (file more : Text) (db : Reading) (n : ℕ) : Type 0 where
  pub first : Reading
  pub rest : Reading
  pub reads : Reads file first
  pub after : Reads more rest
  pub count : length first.items ≡ n
  pub whole : db ≡ with_seam first rest

apart : (file more : Text) (db : Reading) (n : ℕ) → Reads (file ++ (seam ++ more)) db → n ≤ length db.items → start_of db n ≡ length file → AreApart file more db n
apart file more db n reads within starts =
    let both = cut file (seam ++ more) db n reads within starts in
    let next = after_seam more (drop n db.items) both.from in record {
      first = record { front = db.front; items = take n db.items };
      rest = next.rest;
      reads = both.before;
      after = next.reads;
      count = length-take-le n db.items within;
      whole = λ k. record { front = db.front; items = (sym (take-append-drop n db.items) ∙ ap (λ l. take n db.items ++ l) next.items_are) k };
    }

-- an item after the first file and its seam is one of the files after it, and begins there as much earlier
begins_after : (first rest : Reading) (file : Text) (place m : ℕ) → bytes_of first ≡ file → m ≤ length (with_seam first rest).items →
    start_of (with_seam first rest) m ≡ (length file + length seam) + place → start_of (with_seam first rest) (length first.items) ≡ length file → BeginsAt rest place
begins_after first rest file place m bytes within starts ends =
    let db = with_seam first rest in
    let k : ℕ = m - suc (length first.items) in
    let later : length first.items < m = after_first in
    let split : m ≡ length first.items + suc k = omega (arith, later) in
    let counted = length-append first.items (seam_item rest.front ∷ rest.items) in
    let few : k ≤ length rest.items = omega (arith, counted, within, split) in
    let placed : start_of db (length first.items + suc k) ≡ (length (bytes_of first) + length seam) + start_of rest k =
    ap (start_of db) (regroup (length first.items) k) ∙ are_placed first (rest ∷ []) 1 k rest refl few ∙ ap (λ j. j + start_of rest k) (add-zero (length (bytes_of first) + length seam)) in
    (k, few, same (length file + length seam) (sym (ap (λ t. (length t + length seam) + start_of rest k) bytes) ∙ sym placed ∙ ap (start_of db) (sym split) ∙ starts))
  where
    regroup : (a b : ℕ) → a + suc b ≡ (a + suc 0) + b
    regroup a b = omega arith

    add-zero : (a : ℕ) → a + 0 ≡ a
    add-zero a = omega arith

    same : (a : ℕ) {b c : ℕ} → a + b ≡ a + c → b ≡ c
    same a e = omega (arith, e)

    far : {a b c : ℕ} → a ≤ b → a ≡ (c + length seam) + place → b ≡ c → ⊥
    far le is other = omega (arith, le, is, other)

    after_first : length first.items < m
    after_first = ⊎_elim (λ less. less) (λ no_less. absurd (far (begins_no_later (with_seam first rest) m (length first.items) no_less (early (length-append first.items (seam_item rest.front ∷ rest.items)))) starts ends)) (cases_lt (length first.items) m)
      where
        early : {n : ℕ} → n ≡ length first.items + suc (length rest.items) → length first.items ≤ n
        early is = omega (arith, is)

pub parted_read : parted_files_read
parted_read file [] db reads parted = (db ∷ [], (reads, tt))
parted_read file (next ∷ more) db reads parted =
    let here = parted 0 file (omega arith) refl in
    let two = apart file (shelf_text next more) db here.0 reads here.1 (here.2 ∙ zero-add (length file)) in
    let later = parted_read next more two.rest two.after (λ i its lt at.
    let there = parted (suc i) its (omega (arith, lt)) at in
    let place : ℕ = first_place i (next ∷ more) + length its in
    begins_after two.first two.rest file place there.0 two.reads.bytes
    (subst (λ d. there.0 ≤ length d.items) two.whole there.1)
    (subst (λ d. start_of d there.0 ≡ (length file + length seam) + place) two.whole (there.2 ∙ regroup (length file + length seam) (first_place i (next ∷ more)) (length its)))
    (subst (λ d. start_of d (length two.first.items) ≡ length file) two.whole (ap (start_of db) two.count ∙ here.2 ∙ zero-add (length file)))) in
    (two.first ∷ later.0, (two.reads, later.1))
  where
    regroup : (a b c : ℕ) → (a + b) + c ≡ a + (b + c)
    regroup a b c = omega arith
