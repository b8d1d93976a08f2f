-- The pieces of chunks that mostly are kept, with their places; and the length of what pieces make.
use Rattle.bib_edit.proofs.Words.{◌≡◌, ℕ, zero, suc, ◌+◌, Bool, List, [], ◌∷◌, ◌++◌, length, take, drop, sym, ◌∙◌, ap, ap₂, zero-add, append-nil, le_refl, flat_map, drop_of_length-le, take_all, cond-true, cond-false, Text, Tree, Item, Reading, item_bytes, Kept, Replaced, pieces_from}
use Rattle.bib_edit.proofs.Words.{pieces_of_chunks, kept_item, kept_items, chunks_from_first, without_body, start_of, IsFirstAt, body_at, trail_at}
use Rattle.bib_edit.proofs.PieceLists.{pieces-after_items, pieces-kept_items}

abbrev pub items_bytes : List Item → Text
items_bytes items = flat_map item_bytes items

-- ---- a removal

removed_chunks : (test : Tree → Bool) (items : List Item) (n : ℕ) → IsFirstAt test items n →
    chunks_from_first test without_body items ≡ kept_items (take n items) ++ (Replaced (body_at items n) [] ∷ Kept (trail_at items n) ∷ kept_items (drop (suc n) items))
removed_chunks test [] n f = absurd f
removed_chunks test (item ∷ items) zero f = cond-true (test item.tree) (without_body item items) (kept_item item ∷ chunks_from_first test without_body items) f
removed_chunks test (item ∷ items) (suc n) f =
    cond-false (test item.tree) (without_body item items) (kept_item item ∷ chunks_from_first test without_body items) f.0 ∙ ap (λ l. kept_item item ∷ l) (removed_chunks test items n f.1)

pub removal-pieces : (test : Tree → Bool) (db : Reading) (n : ℕ) → IsFirstAt test db.items n →
    pieces_of_chunks (Kept db.front ∷ chunks_from_first test without_body db.items) ≡ record { place = start_of db n; old = body_at db.items n; new = [] } ∷ []
removal-pieces test db n f =
    let rest = Replaced (body_at db.items n) [] ∷ Kept (trail_at db.items n) ∷ kept_items (drop (suc n) db.items) in
    ap (λ l. pieces_from (0 + length db.front) l) (removed_chunks test db.items n f)
    ∙ ap (λ k. pieces_from k (kept_items (take n db.items) ++ rest)) (zero-add (length db.front))
    ∙ pieces-after_items (length db.front) (take n db.items) rest
    ∙ ap (λ l. record { place = start_of db n; old = body_at db.items n; new = [] } ∷ l) (pieces-kept_items (start_of db n + length (body_at db.items n) + length (trail_at db.items n)) (drop (suc n) db.items))

-- ---- an insertion

pub insertion-pieces : (new : Text) (db : Reading) (n : ℕ) →
    pieces_of_chunks (Kept db.front ∷ (kept_items (take n db.items) ++ ((Replaced [] new ∷ []) ++ kept_items (drop n db.items)))) ≡ record { place = start_of db n; old = []; new = new } ∷ []
insertion-pieces new db n =
    let rest = Replaced [] new ∷ kept_items (drop n db.items) in
    ap (λ k. pieces_from k (kept_items (take n db.items) ++ rest)) (zero-add (length db.front))
    ∙ pieces-after_items (length db.front) (take n db.items) rest
    ∙ ap (λ l. record { place = start_of db n; old = []; new = new } ∷ l) (pieces-kept_items (start_of db n + 0) (drop n db.items))

-- at the end
pub appending-pieces : (new : Text) (db : Reading) →
    pieces_of_chunks (Kept db.front ∷ (kept_items db.items ++ Replaced [] new ∷ [])) ≡ record { place = start_of db (length db.items); old = []; new = new } ∷ []
appending-pieces new db =
    let n = length db.items in
    ap₂ (λ (before after : List Item). pieces_of_chunks (Kept db.front ∷ (kept_items before ++ ((Replaced [] new ∷ []) ++ kept_items after))))
    (sym (take_all n db.items (le_refl n))) (sym (drop_of_length-le db.items (le_refl n)))
    ∙ insertion-pieces new db n

pub no-pieces : (db : Reading) → pieces_of_chunks (Kept db.front ∷ (kept_items db.items ++ [])) ≡ []
no-pieces db = ap (pieces_from (0 + length db.front)) (append-nil (kept_items db.items)) ∙ pieces-kept_items (0 + length db.front) db.items
