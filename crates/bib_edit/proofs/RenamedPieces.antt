-- The pieces of a renaming of fields are the old names, each with the new one for it.
use Rattle.bib_edit.proofs.Words.{◌≡◌, ℕ, ◌+◌, List, [], ◌∷◌, ◌++◌, Some, None, length, map, flat_map, slice_get, ⊎_elim, refl, sym, ◌∙◌, ap, arith, append_assoc, append-nil, length-append, map-append, cases_Bool, cond-true, cond-false}
use Rattle.bib_edit.proofs.Words.{comma, equals_sign, Text, same, Row, Entry, Tree, CommentTree, DefinitionTree, PreambleTree, EntryTree, assignment_bytes, row_bytes, opening_bytes, close_byte, last_comma_bytes, value_bytes, tree_bytes, Item, Reading, item_bytes, Record, Piece, Chunk, Kept, pieces_from, token, after_rows, name_renamed, pieces_of}
use Rattle.bib_edit.proofs.Words.{Field, field_after, fields_after, view_of, start_of, item_named, replaced_by, replaced}
use Rattle.edit_spec.specs.Edits.{RenameField}
use Rattle.edit_spec.specs.EditChunks.{after_name, row_name_chunks, names_replaced, each_entry_as}
use Rattle.edit_spec.proofs.TreeChunks.{assignment_regroup}
use Rattle.bib_edit.specs.RenamedFields.{own_fields, names_at, names_in}
use Rattle.bib_edit.proofs.PieceLists.{pieces-before_items}
use Rattle.bib_edit.proofs.SettingPieces.{pieces-entry_as}

-- a row's bytes: up to its name, its name, and those after it
row-length : (row : Row) → length (row_bytes row) ≡ length (comma ∷ row.space_before_name) + (length row.assignment.name + length (after_name row))
row-length row =
    let c : Text = comma ∷ row.space_before_name in
    let n : Text = row.assignment.name in
    let parts : length (assignment_bytes row.assignment) ≡ length (n ++ after_name row) =
    ap (length {A = ℕ}) (sym (assignment_regroup n row.assignment.space_before_equals (equals_sign ∷ row.assignment.space_before_value) (value_bytes row.assignment.value) row.assignment.space_after)) in
    omega (arith, parts, length-append c (assignment_bytes row.assignment), length-append n (after_name row))

module _ (from to : Text) where
  abbrev pieces : List (ℕ × Text) → List Piece
  pieces names = map (replaced_by to) names

  -- the rows stand after this text, in an item that begins at this place
  pieces-rows : (start : ℕ) (before : Text) (rows : List Row) (rest : List Chunk) →
      pieces_from (start + length before) (flat_map (row_name_chunks from to) rows ++ rest)
      ≡ pieces (names_at start from (fields_after before rows)) ++ pieces_from (start + length (before ++ flat_map row_bytes rows)) rest
  pieces-rows start before [] rest = ap (λ (t : Text). pieces_from (start + length t) rest) (sym (append-nil before))
  pieces-rows start before (row ∷ rows) rest =
      let c : Text = comma ∷ row.space_before_name in
      let name : Text = row.assignment.name in
      let field : Field = field_after (length before) (before ++ c) row.assignment in
      let later : List (ℕ × Text) = names_at start from (fields_after (before ++ row_bytes row) rows) in
      let after : List Chunk = flat_map (row_name_chunks from to) rows ++ rest in
      let place : start + length before + length c ≡ start + field.name_at = (let l = length-append before c in omega (arith, l)) in
      let next : start + field.name_at + length name + length (after_name row) ≡ start + length (before ++ row_bytes row) =
      (let l = length-append before c in let m = length-append before (row_bytes row) in let n = row-length row in omega (arith, l, m, n)) in
      let end : pieces_from (start + length (before ++ row_bytes row)) after ≡ pieces later ++ pieces_from (start + length (before ++ flat_map row_bytes (row ∷ rows))) rest =
      pieces-rows start (before ++ row_bytes row) rows rest
      ∙ ap (λ (t : Text). pieces later ++ pieces_from (start + length t) rest) (append_assoc before (row_bytes row) (flat_map row_bytes rows)) in
      ap (λ k. pieces_from k (token name (name_renamed from to name) ∷ Kept (after_name row) ∷ after)) place
      ∙ ⊎_elim
      (λ t. ap (λ o. pieces_from (start + field.name_at) (token name o ∷ Kept (after_name row) ∷ after)) (cond-true (same name from) (Some to) None t)
      ∙ ap (λ (l : List Piece). replaced_by to (start + field.name_at, name) ∷ l) (ap (λ k. pieces_from k after) next ∙ end)
      ∙ sym (ap (λ (l : List (ℕ × Text)). pieces l ++ pieces_from (start + length (before ++ flat_map row_bytes (row ∷ rows))) rest)
      (cond-true (same name from) ((start + field.name_at, name) ∷ later) later t)))
      (λ t. ap (λ o. pieces_from (start + field.name_at) (token name o ∷ Kept (after_name row) ∷ after)) (cond-false (same name from) (Some to) None t)
      ∙ ap (λ k. pieces_from k after) next ∙ end
      ∙ sym (ap (λ (l : List (ℕ × Text)). pieces l ++ pieces_from (start + length (before ++ flat_map row_bytes (row ∷ rows))) rest)
      (cond-false (same name from) ((start + field.name_at, name) ∷ later) later t)))
      (cases_Bool (same name from))

  entry_parts : (o k s r l c t : Text) → (o ++ k ++ (((s ++ r) ++ l) ++ c)) ++ t ≡ (((o ++ k ++ s) ++ r) ++ (l ++ c)) ++ t
  entry_parts o k s r l c t = simp append_assoc

  -- an item that begins at this place
  pub pieces-item : (at : ℕ) (item : Item) (rest : List Chunk) →
      pieces_from at (each_entry_as (names_replaced from to) item ++ rest)
      ≡ pieces (names_at at from (own_fields (view_of item))) ++ pieces_from (at + length (item_bytes item)) rest
  pieces-item at item rest = by_tree item.tree
    where
      kept : (tree : Tree) → pieces_from at (Kept (tree_bytes tree) ∷ Kept item.trail ∷ rest) ≡ pieces_from (at + length (tree_bytes tree ++ item.trail)) rest
      kept tree = ap (λ k. pieces_from k rest) (let l = length-append (tree_bytes tree) item.trail in omega (arith, l))

      by_tree : (tree : Tree) →
          pieces_from at (each_entry_as (names_replaced from to) (record { tree = tree; trail = item.trail }) ++ rest)
          ≡ pieces (names_at at from (own_fields (view_of (record { tree = tree; trail = item.trail })))) ++ pieces_from (at + length (tree_bytes tree ++ item.trail)) rest
      by_tree (CommentTree h) = kept (CommentTree h)
      by_tree (DefinitionTree d) = kept (DefinitionTree d)
      by_tree (PreambleTree p) = kept (PreambleTree p)
      by_tree (EntryTree e) =
          let o : Text = opening_bytes e.opening in
          let before : Text = o ++ e.key ++ e.space_after_key in
          let rows : List Chunk = flat_map (row_name_chunks from to) e.rows in
          let bytes : Text = flat_map row_bytes e.rows in
          let last : Text = last_comma_bytes e.last_comma in
          let close : Text = close_byte e.opening.delimiter ∷ [] in
          let inside : at + length o + length e.key + length e.space_after_key ≡ at + length before =
          (let l = length-append (o ++ e.key) e.space_after_key in let m = length-append o e.key in omega (arith, l, m)) in
          let whole : length (tree_bytes (EntryTree e) ++ item.trail) ≡ length (((before ++ bytes) ++ after_rows e) ++ item.trail) =
          ap (length {A = ℕ}) (entry_parts o e.key e.space_after_key bytes last close item.trail) in
          let end : at + length (before ++ bytes) + length (after_rows e) + length item.trail ≡ at + length (tree_bytes (EntryTree e) ++ item.trail) =
          (let l = length-append ((before ++ bytes) ++ after_rows e) item.trail in let m = length-append (before ++ bytes) (after_rows e) in omega (arith, l, m, whole)) in
          ap (λ (l : List Chunk). pieces_from (at + length o + length e.key + length e.space_after_key) l)
          (append_assoc (rows ++ Kept (after_rows e) ∷ []) (Kept item.trail ∷ []) rest ∙ append_assoc rows (Kept (after_rows e) ∷ []) (Kept item.trail ∷ rest))
          ∙ ap (λ k. pieces_from k (rows ++ Kept (after_rows e) ∷ Kept item.trail ∷ rest)) inside
          ∙ pieces-rows at before e.rows (Kept (after_rows e) ∷ Kept item.trail ∷ rest)
          ∙ ap (λ k. pieces (names_at at from (fields_after before e.rows)) ++ pieces_from k rest) end

  -- items that follow each other from this place on
  pub pieces-items : (at : ℕ) (items : List Item) → pieces_from at (flat_map (each_entry_as (names_replaced from to)) items) ≡ pieces (names_in at from items)
  pieces-items at [] = refl
  pieces-items at (item ∷ items) =
      pieces-item at item (flat_map (each_entry_as (names_replaced from to)) items)
      ∙ ap (λ (l : List Piece). pieces (names_at at from (own_fields (view_of item))) ++ l) (pieces-items (at + length (item_bytes item)) items)
      ∙ sym (map-append (replaced_by to) (names_at at from (own_fields (view_of item))) (names_in (at + length (item_bytes item)) from items))

  -- the pieces of the edit in every entry
  pub renamed-all : (base : Record → Text) (db : Reading) → replaced to (names_in (start_of db 0) from db.items) ≡ pieces_of base db (RenameField from to None)
  renamed-all base db =
      ap (λ k. pieces (names_in k from db.items)) (let z : start_of db 0 ≡ 0 + length db.front = omega arith in z)
      ∙ sym (pieces-items (0 + length db.front) db.items)

  -- the pieces of an entry that begins at this place
  pub renamed-entry : (start : ℕ) (e : Entry) (trail : Text) →
      pieces_from start (names_replaced from to e) ≡ replaced to (names_at start from (own_fields (view_of (record { tree = EntryTree e; trail = trail }))))
  renamed-entry start e trail =
      let item : Item = record { tree = EntryTree e; trail = trail } in
      sym (pieces-before_items start (names_replaced from to e) trail [])
      ∙ ap (λ (l : List Chunk). pieces_from start l) (sym (append-nil (names_replaced from to e ++ Kept trail ∷ [])))
      ∙ pieces-item start item []
      ∙ append-nil (pieces (names_at start from (own_fields (view_of item))))

  -- the pieces of the edit in the entry that the key names
  pub renamed-one : (base : Record → Text) (db : Reading) (key : Text) (n : ℕ) (e : Entry) (trail : Text) → item_named key db ≡ Some n → slice_get db.items n ≡ Some (record { tree = EntryTree e; trail = trail }) →
      replaced to (names_at (start_of db n) from (own_fields (view_of (record { tree = EntryTree e; trail = trail })))) ≡ pieces_of base db (RenameField from to (Some key))
  renamed-one base db key n e trail named at =
      sym (pieces-entry_as (names_replaced from to) db key n e trail named at ∙ renamed-entry (start_of db n) e trail)
