-- The piece that drops a field is the one piece of the edit's chunks.
use Rattle.bib_edit.proofs.Words.{◌≡◌, ℕ, suc, ◌+◌, ◌-◌, ◌≤◌, ◌<◌, ◌==◌, ◌&&◌, true, false, List, [], ◌∷◌, ◌++◌, Some, length, take, drop, find, slice_get, ⊎_elim, refl, sym, ◌∙◌, ap, ap₂, subst₂, arith, append_assoc, append-nil, length-append, ne_eqb, and-false, flat_map, between, option_map_or, bytes_eq}
use Rattle.bib_edit.proofs.Words.{cases_Bool, cond-true, cond-false, eq-eqb, drop_at, take_at, none-some, same_Some, comma, close_paren, Text, same, Row, Entry, EntryTree, value_bytes, row_bytes, opening_bytes, close_byte, last_comma_bytes, entry_bytes, Reading, row_start, Record, is_named, Chunk}
use Rattle.bib_edit.proofs.Words.{Kept, Replaced, pieces_from, is_entry, of_entry, row_before, without_field, entry_without_field, drop_field, ends_in_key, tree_ends_in_key, kept_rows, entry_chunks, field_dropped, pieces_of, row-parts, Field, field_after, fields_after, view_of, start_of, field_end}
use Rattle.bib_edit.proofs.Words.{is_field, item_named, cut_piece, joins_key, value-place}
use Rattle.edit_spec.specs.Edits.{DropField, entry_with_rows}
use Rattle.bib_edit.proofs.FirstItems.{found-again}
use Rattle.bib_edit.proofs.PieceLists.{pieces-entry, pieces-kept_rows}
use Rattle.bib_edit.proofs.SettingPieces.{item_at, before-next, length-to_value, pieces-entry_as, row_regroup}

abbrev rows_bytes : List Row → Text
rows_bytes rows = flat_map row_bytes rows

abbrev spaced_rows : Text × List Row → Text
spaced_rows rows = rows.0 ++ rows_bytes rows.1

-- white space and rows, after this text, where the field's row is cut out: the white space and rows that are left, and the chunks
pub record IsCut (left : Text × List Row) (chunks : List Chunk) (key_text before : Text) (rows : List Row) (field : Field) : Type 0 where
  pub kept : Text
  pub gone : Text
  pub after : Text
  pub old : before ++ rows_bytes rows ≡ kept ++ (gone ++ after)
  pub new : spaced_rows left ≡ kept ++ after
  pub start : field.start ≡ length (key_text ++ kept)
  pub end : field_end field ≡ length (key_text ++ kept) + length gone
  pub pieces : (at : ℕ) → pieces_from at chunks ≡ record { place = at + length kept; old = gone; new = [] } ∷ []

cut_regroup : (s v b r : Text) → (s ++ (v ++ b)) ++ r ≡ (s ++ v) ++ (b ++ r)
cut_regroup s v b r = simp append_assoc

pass_regroup : (p s v b r : Text) → p ++ ((s ++ (v ++ b)) ++ r) ≡ ((p ++ s) ++ v) ++ (b ++ r)
pass_regroup p s v b r = simp append_assoc

text_regroup : (k p s v a : Text) → (((k ++ p) ++ s) ++ v) ++ a ≡ k ++ (((p ++ s) ++ v) ++ a)
text_regroup k p s v a = simp append_assoc

abbrev dropped : Text → Row → List Row → List Chunk
dropped before row rows = Kept before ∷ Replaced (row_start row ++ value_bytes row.assignment.value) [] ∷ Kept row.assignment.space_after ∷ kept_rows rows

abbrev passed : Text → Row → List Chunk → List Chunk
passed before row chunks = Kept before ∷ Kept (row_start row) ∷ Kept (value_bytes row.assignment.value) ∷ chunks

abbrev cut_rows : Text → Row → List Row → Text × List Row
cut_rows before row rows = (before ++ row.assignment.space_after, rows)

abbrev passed_rows : Text → Row → Text × List Row → Text × List Row
passed_rows before row rest = (before, row_before rest.0 row ∷ rest.1)

cut-here : (key_text before : Text) (row : Row) (rows : List Row) (field : Field) →
    field_after (length (key_text ++ before)) ((key_text ++ before) ++ comma ∷ row.space_before_name) row.assignment ≡ field →
    IsCut (cut_rows before row rows) (dropped before row rows) key_text before (row ∷ rows) field
cut-here key_text before row rows field is =
    let text : Text = key_text ++ before in
    let it : Field = field_after (length text) (text ++ comma ∷ row.space_before_name) row.assignment in
    let place : it.value_at ≡ length text + length (row_start row) = value-place text row in
    let long : length (row_start row ++ value_bytes row.assignment.value) ≡ length (row_start row) + length (value_bytes row.assignment.value) = length-append (row_start row) (value_bytes row.assignment.value) in
    let end : field_end it ≡ length text + length (row_start row ++ value_bytes row.assignment.value) = omega (arith, place, long) in
    record {
      kept = before;
      gone = row_start row ++ value_bytes row.assignment.value;
      after = row.assignment.space_after ++ rows_bytes rows;
      old = ap (λ t. before ++ t) (ap (λ t. t ++ rows_bytes rows) (row-parts row) ∙ cut_regroup (row_start row) (value_bytes row.assignment.value) row.assignment.space_after (rows_bytes rows));
      new = append_assoc before row.assignment.space_after (rows_bytes rows);
      start = sym (ap (λ (f : Field). f.start) is);
      end = sym (ap field_end is) ∙ end;
      pieces = λ at. ap (λ ps. record { place = at + length before; old = row_start row ++ value_bytes row.assignment.value; new = [] } ∷ ps)
          (pieces-kept_rows (at + length before + length (row_start row ++ value_bytes row.assignment.value) + length row.assignment.space_after) rows);
    }

pub cut-later : (left : Text × List Row) (chunks : List Chunk) (key_text before : Text) (row : Row) (rows : List Row) (field : Field) →
    IsCut left chunks (((key_text ++ before) ++ row_start row) ++ value_bytes row.assignment.value) row.assignment.space_after rows field →
    IsCut (passed_rows before row left) (passed before row chunks) key_text before (row ∷ rows) field
cut-later left chunks key_text before row rows field rest =
    let s : Text = row_start row in
    let v : Text = value_bytes row.assignment.value in
    let front : Text = (before ++ s) ++ v in
    let whole : (((key_text ++ before) ++ s) ++ v) ++ rest.kept ≡ key_text ++ (front ++ rest.kept) = text_regroup key_text before s v rest.kept in
    let long : length (front ++ rest.kept) ≡ length before + length s + length v + length rest.kept =
    length-append front rest.kept ∙ ap (λ n. n + length rest.kept) (length-to_value before row) in
    record {
      kept = front ++ rest.kept;
      gone = rest.gone;
      after = rest.after;
      old = ap (λ t. before ++ (t ++ rows_bytes rows)) (row-parts row) ∙ pass_regroup before s v row.assignment.space_after (rows_bytes rows)
          ∙ ap (λ t. front ++ t) rest.old ∙ sym (append_assoc front rest.kept (rest.gone ++ rest.after));
      new = ap (λ t. before ++ (t ++ rows_bytes left.1)) (row-parts (row_before left.0 row)) ∙ pass_regroup before s v left.0 (rows_bytes left.1)
          ∙ ap (λ t. front ++ t) rest.new ∙ sym (append_assoc front rest.kept rest.after);
      start = rest.start ∙ ap length whole;
      end = rest.end ∙ ap (λ t. length t + length rest.gone) whole;
      pieces = λ at. rest.pieces (at + length before + length s + length v)
          ∙ ap (λ n. record { place = n; old = rest.gone; new = [] } ∷ []) (omega (arith, long));
    }

module _ (name : Text) where
  pub cut-rows : (key_text before : Text) (rows : List Row) (field : Field) → Some field ≡ find (is_field name) (fields_after (key_text ++ before) rows) →
      IsCut (without_field name before rows) (field_dropped name before rows) key_text before rows field
  cut-rows key_text before [] field found = absurd (none-some field (sym found))
  cut-rows key_text before (row ∷ rows) field found =
      let text : Text = key_text ++ before in
      let it : Field = field_after (length text) (text ++ comma ∷ row.space_before_name) row.assignment in
      let others : List Field = fields_after (text ++ row_bytes row) rows in
      let left = without_field name row.assignment.space_after rows in
      let chunks : List Chunk = field_dropped name row.assignment.space_after rows in
      ⊎_elim
      (λ t. subst₂ (λ (left : Text × List Row) (chunks : List Chunk). IsCut left chunks key_text before (row ∷ rows) field)
      (sym (cond-true (same row.assignment.name name) (cut_rows before row rows) (passed_rows before row left) t))
      (sym (cond-true (same row.assignment.name name) (dropped before row rows) (passed before row chunks) t))
      (cut-here key_text before row rows field (same_Some it field (sym (cond-true (same row.assignment.name name) (Some it) (find (is_field name) others) t) ∙ sym found))))
      (λ t. subst₂ (λ (left : Text × List Row) (chunks : List Chunk). IsCut left chunks key_text before (row ∷ rows) field)
      (sym (cond-false (same row.assignment.name name) (cut_rows before row rows) (passed_rows before row left) t))
      (sym (cond-false (same row.assignment.name name) (dropped before row rows) (passed before row chunks) t))
      (cut-later left chunks key_text before row rows field (cut-rows ((text ++ row_start row) ++ value_bytes row.assignment.value) row.assignment.space_after rows field
      (found ∙ cond-false (same row.assignment.name name) (Some it) (find (is_field name) others) t ∙ ap (λ u. find (is_field name) (fields_after u rows)) (sym (before-next text row))))))
      (cases_Bool (same row.assignment.name name))

-- ---- the body

body_regroup : (o k a g b l c : Text) → (o ++ k) ++ (((a ++ (g ++ b)) ++ l) ++ c) ≡ ((o ++ k) ++ a) ++ (g ++ (b ++ (l ++ c)))
body_regroup o k a g b l c = simp append_assoc

nonempty_eq : (xs : Text) → 0 < length xs → bytes_eq xs [] ≡ false
nonempty_eq [] h = absurd (omega (arith, h))
nonempty_eq (x ∷ xs) h = refl

-- the text is the parenthesis alone exactly where nothing stands before its rest, and the rest is the parenthesis
joined : (k a r : Text) → 0 < length r → bytes_eq (a ++ r) (close_paren ∷ []) ≡ ((length (k ++ a) == length k) && bytes_eq r (close_paren ∷ []))
joined k [] r h = sym (ap (λ b. b && bytes_eq r (close_paren ∷ [])) (eq-eqb (length (k ++ [])) (length k) (ap length (append-nil k))))
joined k (x ∷ a) r h =
    let long : length (k ++ x ∷ a) ≡ length k + suc (length a) = length-append k (x ∷ a) in
    let rest : 0 < length (a ++ r) = let l = length-append a r in omega (arith, h, l) in
    ap (λ b. (x == close_paren) && b) (nonempty_eq (a ++ r) rest) ∙ and-false (x == close_paren)
    ∙ sym (ap (λ b. b && bytes_eq r (close_paren ∷ [])) (ne_eqb (length (k ++ x ∷ a)) (length k) (λ e. omega (arith, e, long))))

abbrev pub key_text_of : Entry → Text
key_text_of e = opening_bytes e.opening ++ e.key

module _ {left : Text × List Row} {chunks : List Chunk} (e : Entry) (trail : Text) (field : Field) (cut_here : IsCut left chunks (key_text_of e) e.space_after_key e.rows field) where
  abbrev key_text : Text
  key_text = key_text_of e

  abbrev close : Text
  close = close_byte e.opening.delimiter ∷ []

  abbrev front : Text
  front = key_text ++ cut_here.kept

  abbrev rest : Text
  rest = cut_here.after ++ (last_comma_bytes e.last_comma ++ close)

  body : entry_bytes e ≡ front ++ (cut_here.gone ++ rest)
  body = ap (λ t. key_text ++ ((t ++ last_comma_bytes e.last_comma) ++ close)) cut_here.old
      ∙ body_regroup (opening_bytes e.opening) e.key cut_here.kept cut_here.gone cut_here.after (last_comma_bytes e.last_comma) close

  rest-long : 0 < length rest
  rest-long = let l = length-append cut_here.after (last_comma_bytes e.last_comma ++ close) in let m = length-append (last_comma_bytes e.last_comma) close in omega (arith, l, m)

  pub row-begins : field.start ≤ field_end field
  row-begins = let s = cut_here.start in let t = cut_here.end in omega (arith, s, t)

  pub key-before : length (opening_bytes e.opening) + length e.key ≤ field.start
  key-before =
      let s = cut_here.start in let k = length-append key_text cut_here.kept in let l = length-append (opening_bytes e.opening) e.key in omega (arith, s, k, l)

  pub row-within : field_end field ≤ length (entry_bytes e)
  row-within =
      let t = cut_here.end in let b : length (entry_bytes e) ≡ length (front ++ (cut_here.gone ++ rest)) = ap length body in
      let l = length-append front (cut_here.gone ++ rest) in let m = length-append cut_here.gone rest in omega (arith, t, b, l, m)

  -- what the row's bytes are
  row-bytes : between field.start (field_end field) (entry_bytes e) ≡ cut_here.gone
  row-bytes =
      let s = cut_here.start in let t = cut_here.end in
      let len : field_end field - field.start ≡ length cut_here.gone = omega (arith, s, t) in
      ap₂ (λ n t. take n t) len (ap₂ drop cut_here.start body ∙ drop_at front (cut_here.gone ++ rest) (length front) refl) ∙ take_at cut_here.gone rest (length cut_here.gone) refl

  after-row : drop (field_end field) (entry_bytes e) ≡ rest
  after-row =
      ap₂ drop cut_here.end (body ∙ sym (append_assoc front cut_here.gone rest))
      ∙ drop_at (front ++ cut_here.gone) rest (length front + length cut_here.gone) (length-append front cut_here.gone)

  -- the entry without the row ends in its key where the row joins it
  pub joins-row : ends_in_key (entry_with_rows left e) ≡ joins_key (view_of (item_at (EntryTree e) trail)) field
  joins-row =
      ap (λ t. bytes_eq ((t ++ last_comma_bytes e.last_comma) ++ close) (close_paren ∷ [])) cut_here.new
      ∙ ap (λ t. bytes_eq t (close_paren ∷ [])) (row_regroup cut_here.kept cut_here.after (last_comma_bytes e.last_comma) close)
      ∙ joined key_text cut_here.kept rest rest-long
      ∙ ap₂ (λ n t. (n == length key_text) && bytes_eq t (close_paren ∷ [])) (sym cut_here.start) (sym after-row)
      ∙ ap (λ n. (field.start == n) && bytes_eq (drop (field_end field) (entry_bytes e)) (close_paren ∷ [])) (length-append (opening_bytes e.opening) e.key)

  -- the rows' chunks are one piece
  pub cut-one_piece : (start : ℕ) → pieces_from start (entry_chunks (Kept e.key) chunks e) ≡ cut_piece start (entry_bytes e) field ∷ []
  cut-one_piece start =
      let long : length key_text ≡ length (opening_bytes e.opening) + length e.key = length-append (opening_bytes e.opening) e.key in
      let kept : length front ≡ length key_text + length cut_here.kept = length-append key_text cut_here.kept in
      let s = cut_here.start in
      pieces-entry start chunks e
      ∙ cut_here.pieces (start + length (opening_bytes e.opening) + length e.key)
      ∙ ap₂ (λ n t. record { place = n; old = t; new = [] } ∷ []) (omega (arith, long, kept, s)) (sym row-bytes)

module _ (name : Text) (e : Entry) (trail : Text) (field : Field) (found : Some field ≡ find (is_field name) (view_of (item_at (EntryTree e) trail)).fields) where
  -- the first row of the name is cut out
  pub first-cut : IsCut (without_field name e.space_after_key e.rows) (field_dropped name e.space_after_key e.rows) (key_text_of e) e.space_after_key e.rows field
  first-cut = cut-rows name (key_text_of e) e.space_after_key e.rows field found

  module _ (db : Reading) (key : Text) (n : ℕ) (named : item_named key db ≡ Some n) (at : slice_get db.items n ≡ Some (item_at (EntryTree e) trail)) where
    -- dropping a field is one piece
    pub drop-one_piece : (base : Record → Text) → pieces_of base db (DropField key name) ≡ cut_piece (start_of db n) (entry_bytes e) field ∷ []
    drop-one_piece base =
        pieces-entry_as (λ e. entry_chunks (Kept e.key) (field_dropped name e.space_after_key e.rows) e) db key n e trail named at
        ∙ cut-one_piece e trail field first-cut (start_of db n)

    -- the entry is found again, without the row
    pub joins-found : is_named key e.key ≡ true →
        option_map_or (λ item. tree_ends_in_key item.tree) (find (λ item. is_entry key item.tree) (drop_field key name db).items) false ≡ joins_key (view_of (item_at (EntryTree e) trail)) field
    joins-found holds =
        ap (λ o. option_map_or (λ item. tree_ends_in_key item.tree) o false)
        (found-again (is_entry key) (of_entry (entry_without_field name)) db.items n (item_at (EntryTree e) trail) named at holds)
        ∙ joins-row e trail field first-cut
