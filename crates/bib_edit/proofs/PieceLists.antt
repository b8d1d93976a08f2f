-- The pieces of lists of chunks.
use Rattle.bib_edit.proofs.Words.{◌≡◌, ℕ, ◌+◌, ◌≤◌, false, List, [], ◌∷◌, ◌++◌, length, refl, sym, ◌∙◌, ap, ap₂, subst, arith, append-nil, length-append, flat_map, Text, Row, Entry, row_bytes, opening_bytes, Item, Reading, item_bytes, bytes_of, Record, Piece, end_of, Fit, Chunk, Kept, Replaced}
use Rattle.bib_edit.proofs.Words.{old_of, new_of, pieces_from, Edit, edited, kept_items, kept_rows, after_rows, entry_chunks, chunks, pieces_of, olds_len, news_len, chunks-are-files, pieces-lead, old-read, items-kept}

pub pieces-append : (at : ℕ) (xs ys : List Chunk) → pieces_from at (xs ++ ys) ≡ pieces_from at xs ++ pieces_from (at + length (old_of xs)) ys
pieces-append at [] ys = ap (λ n. pieces_from n ys) (omega arith)
pieces-append at (Kept text ∷ xs) ys =
    pieces-append (at + length text) xs ys
    ∙ ap (λ n. pieces_from (at + length text) xs ++ pieces_from n ys) (omega (arith, length-append text (old_of xs)))
pieces-append at (Replaced old new ∷ xs) ys =
    ap (λ l. record { place = at; old = old; new = new } ∷ l)
    (pieces-append (at + length old) xs ys
    ∙ ap (λ n. pieces_from (at + length old) xs ++ pieces_from n ys) (omega (arith, length-append old (old_of xs))))

pub pieces-kept_items : (at : ℕ) (items : List Item) → pieces_from at (kept_items items) ≡ []
pieces-kept_items at [] = refl
pieces-kept_items at (item ∷ items) = pieces-kept_items (at + length (item_bytes item)) items

pub pieces-kept_rows : (at : ℕ) (rows : List Row) → pieces_from at (kept_rows rows) ≡ []
pieces-kept_rows at [] = refl
pieces-kept_rows at (row ∷ rows) = pieces-kept_rows (at + length (row_bytes row)) rows

pub old-kept_items : (items : List Item) → old_of (kept_items items) ≡ flat_map item_bytes items
old-kept_items items = old-read (kept_items items) ∙ items-kept false items

-- kept items stand before other chunks
pub pieces-after_items : (at : ℕ) (items : List Item) (chunks : List Chunk) → pieces_from at (kept_items items ++ chunks) ≡ pieces_from (at + length (flat_map item_bytes items)) chunks
pieces-after_items at items chunks =
    pieces-append at (kept_items items) chunks
    ∙ ap₂ (λ (ps : List Piece) (t : Text). ps ++ pieces_from (at + length t) chunks) (pieces-kept_items at items) (old-kept_items items)

-- kept items stand after other chunks
pub pieces-before_items : (at : ℕ) (chunks : List Chunk) (trail : Text) (items : List Item) → pieces_from at (chunks ++ (Kept trail ∷ kept_items items)) ≡ pieces_from at chunks
pieces-before_items at chunks trail items =
    pieces-append at chunks (Kept trail ∷ kept_items items)
    ∙ ap (λ l. pieces_from at chunks ++ l) (pieces-kept_items (at + length (old_of chunks) + length trail) items)
    ∙ append-nil (pieces_from at chunks)

-- in an entry whose key is kept, the pieces are those of its rows
pub pieces-entry : (at : ℕ) (rows : List Chunk) (e : Entry) → pieces_from at (entry_chunks (Kept e.key) rows e) ≡ pieces_from (at + length (opening_bytes e.opening) + length e.key) rows
pieces-entry at rows e =
    let inside : ℕ = at + length (opening_bytes e.opening) + length e.key in
    pieces-append inside rows (Kept (after_rows e) ∷ []) ∙ append-nil (pieces_from inside rows)

-- ---- lengths

-- what is replaced goes, and what replaces it comes
pub lengths-chunks : (at : ℕ) (chunks : List Chunk) → length (new_of chunks) + olds_len (pieces_from at chunks) ≡ length (old_of chunks) + news_len (pieces_from at chunks)
lengths-chunks at [] = refl
lengths-chunks at (Kept text ∷ chunks) = omega (arith, length-append text (new_of chunks), length-append text (old_of chunks), lengths-chunks (at + length text) chunks)
lengths-chunks at (Replaced old new ∷ chunks) = omega (arith, length-append new (new_of chunks), length-append old (old_of chunks), lengths-chunks (at + length old) chunks)

-- the length of the file that an edit makes
pub lengths-edited : (base : Record → Text) (db : Reading) (e : Edit) →
    length (bytes_of (edited base db e)) + olds_len (pieces_of base db e) ≡ length (bytes_of db) + news_len (pieces_of base db e)
lengths-edited base db e =
    let files = chunks-are-files base db e in
    ap (λ (t : Text). length t + olds_len (pieces_of base db e)) (sym files.1)
    ∙ lengths-chunks 0 (chunks base db e)
    ∙ ap (λ (t : Text). length t + news_len (pieces_of base db e)) files.0

-- ---- an edit of one piece

module _ (base : Record → Text) (db : Reading) (e : Edit) (p : Piece) (is : pieces_of base db e ≡ p ∷ []) where
  pub within-one_piece : end_of p ≤ length (bytes_of db)
  within-one_piece =
      let fit : Fit (p ∷ []) (bytes_of db) = subst (λ (ps : List Piece). Fit ps (bytes_of db)) is (pieces-lead base db e).0 in
      fit.standing.0.inside
