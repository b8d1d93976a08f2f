-- The note that is taken from left to right is the note of the tree.
use Rattle.bib_scan.proofs.Words.{◌≡◌, ℕ, ◌+◌, ◌-◌, ◌<◌, ◌≤◌, true, false, eqb, List, [], ◌∷◌, ◌++◌, length, take, drop, map, refl, sym, ap, subst, ◌∙◌, arith, append_assoc, append-nil, Option, Some, None, Result, inl, inr, cases_Bool, cond-true, cond-false, ne_eqb, none-some, same_Some}
use Rattle.bib_scan.proofs.Words.{length-append, length-drop, take_at, drop_at, find, option_map_or, result_ok, Halt, All-head, All-tail, prefix_len, flat_map, All, comma, name_limit, Text, is_space, is_type_byte, same, after_run, does_not_begin_with, crossref, Row, Tree, CommentTree}
use Rattle.bib_scan.proofs.Words.{DefinitionTree, PreambleTree, EntryTree, Opening, close_byte, head_bytes, opening_bytes, after_key_bytes, last_comma_bytes, row_bytes, tree_bytes, goes_on_key, IsRow, IsLastComma, IsOpening, IsTree, Item, Reading, item_bytes, IsItem, Reads, Field}
use Rattle.bib_scan.proofs.Words.{field_after, fields_after, view_of, read_row_field, first_field, all_fields_left, read_head, kind_named, read_opening, is_crossref, left_of_crossref, crossref_left, head_after, read_entry_head, note_from, read_note, note_at, places_of, Note, Kind}
use Rattle.std.proofs.Common.{option_map}
use Rattle.std.specs.Prelude.{if◌then◌else◌}
use Rattle.bib_spec.specs.Tree as tree
use Rattle.bib_scan.specs.Note.{crossref_field, note_of}
use Rattle.bib_scan.specs.NotesLeft.{place_left, entry_head}
use Rattle.bib_scan.specs.declared.view.Kind.TheVariants as kind
use Rattle.bib_scan.proofs.RunLaws.{run_len, run_rest}
use Rattle.bib_scan.proofs.ValueLaws.{Stands}
use Rattle.bib_scan.proofs.CommandLaws.{EndsName}
use Rattle.bib_scan.proofs.AgainLaws.{Close, name_stands, value_stands, rows_inside}
use Rattle.bib_scan.proofs.TreeAgainLaws.{closes, entry_in, definition_shape, preamble_shape, entry_shape}
use Rattle.bib_scan.proofs.FieldLaws.{row_field_again, rows_fields_again}
use Rattle.bib_scan.proofs.HeadLaws.{head_again, opened_with, entry_fields, comment_named, definition_named, preamble_named, entry_named}
use Rattle.bib_scan.proofs.ReadingLaws.{spans_from, spans_all, ends_more, items_next}

-- ---- rows

-- the number of bytes left from the first of these rows named `crossref` on
abbrev lefts : ℕ → List Row → Option Text → Text → ℕ
lefts c [] tail x = 0
lefts c (r ∷ rs) tail x = if same r.assignment.name crossref then length (rows_inside c (r ∷ rs) tail x) else lefts c rs tail x

abbrev field_here : Text → Row → Field
field_here before r = field_after (length before) (before ++ comma ∷ r.space_before_name) r.assignment

-- the first field of that name, or another
found_here : (before : Text) (r : Row) (rs : List Row) → same r.assignment.name crossref ≡ true → find is_crossref (fields_after before (r ∷ rs)) ≡ Some (field_here before r)
found_here before r rs is = cond-true (same r.assignment.name crossref) (Some (field_here before r)) (find is_crossref (fields_after (before ++ row_bytes r) rs)) is

found_later : (before : Text) (r : Row) (rs : List Row) → same r.assignment.name crossref ≡ false → find is_crossref (fields_after before (r ∷ rs)) ≡ find is_crossref (fields_after (before ++ row_bytes r) rs)
found_later before r rs is = cond-false (same r.assignment.name crossref) (Some (field_here before r)) (find is_crossref (fields_after (before ++ row_bytes r) rs)) is

next_rows : (total c : ℕ) (before : Text) (r : Row) (rs : List Row) (tail : Option Text) (x : Text) → total ≡ length (before ++ rows_inside c (r ∷ rs) tail x) → total ≡ length ((before ++ row_bytes r) ++ rows_inside c rs tail x)
next_rows total c before r rs tail x whole =
    whole ∙ ap (λ (u : Text). length (before ++ u)) (append_assoc (row_bytes r) (flat_map row_bytes rs) _) ∙ ap (length {A = ℕ}) (sym (append_assoc before (row_bytes r) (rows_inside c rs tail x)))

rows_left : (total c : ℕ) (before : Text) (rs : List Row) (tail : Option Text) (x : Text) → total ≡ length (before ++ rows_inside c rs tail x) → left_of_crossref total (fields_after before rs) ≡ lefts c rs tail x
rows_left total c before [] tail x whole = refl
rows_left total c before (r ∷ rs) tail x whole =
    let other = lefts c rs tail x in
    let here = length (rows_inside c (r ∷ rs) tail x) in
    let left = λ (o : Option Field). option_map_or (λ (f : Field). total - f.start) o 0 in
    elim (cases_Bool (same r.assignment.name crossref)) [
      | inl is ↦ ap left (found_here before r rs is) ∙ omega (arith, whole, length-append before (rows_inside c (r ∷ rs) tail x)) ∙ sym (cond-true (same r.assignment.name crossref) here other is)
      | inr is ↦ ap left (found_later before r rs is) ∙ rows_left total c (before ++ row_bytes r) rs tail x (next_rows total c before r rs tail x whole) ∙ sym (cond-false (same r.assignment.name crossref) here other is)
    ]

rows_place : (total c : ℕ) (before : Text) (rs : List Row) (tail : Option Text) (x : Text) → total ≡ length (before ++ rows_inside c rs tail x) → place_left total (lefts c rs tail x) ≡ option_map_or (λ f. f.start) (find is_crossref (fields_after before rs)) 0
rows_place total c before [] tail x whole = refl
rows_place total c before (r ∷ rs) tail x whole =
    let other = lefts c rs tail x in
    let here = length (rows_inside c (r ∷ rs) tail x) in
    let start = λ (o : Option Field). option_map_or (λ (f : Field). f.start) o 0 in
    let long : 0 < here = omega (arith, ap (length {A = ℕ}) (append_assoc (row_bytes r) (flat_map row_bytes rs) (last_comma_bytes tail ++ c ∷ x)), length-append (row_bytes r) (rows_inside c rs tail x), length-append (flat_map row_bytes rs) (last_comma_bytes tail ++ c ∷ x), length-append (last_comma_bytes tail) (c ∷ x)) in
    elim (cases_Bool (same r.assignment.name crossref)) [
      | inl is ↦ ap (place_left total) (cond-true (same r.assignment.name crossref) here other is) ∙ place_some total here long
          ∙ omega (arith, whole, length-append before (rows_inside c (r ∷ rs) tail x)) ∙ sym (ap start (found_here before r rs is))
      | inr is ↦ ap (place_left total) (cond-false (same r.assignment.name crossref) here other is) ∙ rows_place total c (before ++ row_bytes r) rs tail x (next_rows total c before r rs tail x whole) ∙ sym (ap start (found_later before r rs is))
    ]
  where
    place_some : (total n : ℕ) → 0 < n → place_left total n ≡ total - n
    place_some total n some = cond-false (eqb n 0) 0 (total - n) (ne_eqb n 0 (λ none. absurd (omega (arith, none))))

crossref_left_of : (rs : List Row) (c : ℕ) (tail : Option Text) (x : Text) → All (IsRow name_limit) rs → IsLastComma tail → Close c → length rs ≤ length (rows_inside c rs tail x) → crossref_left (rows_inside c rs tail x) ≡ lefts c rs tail x
crossref_left_of rs c tail x all space close room =
    let total = length (rows_inside c rs tail x) in
    ap (left_of_crossref total) (rows_fields_again rs total total c [] tail x all space close room refl) ∙ rows_left total c [] rs tail x refl

-- the field begins after the text before the rows, and is read there
found_after : (before : Text) (rs : List Row) (f : Field) → find is_crossref (fields_after before rs) ≡ Some f → length before ≤ f.start
found_after before [] f is = absurd (none-some f is)
found_after before (r ∷ rs) f is = elim (cases_Bool (same r.assignment.name crossref)) [
  | inl here ↦ let same_field = same_Some (field_here before r) f (sym (found_here before r rs here) ∙ is) in omega (arith, ap (λ (g : Field). g.start) same_field)
  | inr other ↦ omega (arith, found_after (before ++ row_bytes r) rs f (sym (found_later before r rs other) ∙ is), length-append before (row_bytes r))
]

found_again : (total c : ℕ) (before body : Text) (rs : List Row) (tail : Option Text) (f : Field) → All (IsRow name_limit) rs → Close c → body ≡ before ++ rows_inside c rs tail [] → total ≡ length body → find is_crossref (fields_after before rs) ≡ Some f →
    (rest : Text) × (first_field kind.Entry total (drop f.start body) ≡ Some (f, rest))
found_again total c before body [] tail f all close whole len is = absurd (none-some f is)
found_again total c before body (r ∷ rs) tail f all close whole len is = elim (cases_Bool (same r.assignment.name crossref)) [
  | inl here ↦
      let same_field = same_Some (field_here before r) f (sym (found_here before r rs here) ∙ is) in
      let at : drop (length before) body ≡ rows_inside c (r ∷ rs) tail [] = ap (drop (length before)) whole ∙ drop_at before _ _ refl in
      let read = row_field_again r rs total c before tail [] all close (len ∙ ap (length {A = ℕ}) whole) in
      (rows_inside c rs tail [], subst (λ (g : Field). first_field kind.Entry total (drop g.start body) ≡ Some (g, rows_inside c rs tail [])) same_field (ap (first_field kind.Entry total) at ∙ read))
  | inr other ↦
      found_again total c (before ++ row_bytes r) body rs tail f (All-tail (IsRow name_limit) r rs all) close
      (whole ∙ ap (λ (u : Text). before ++ u) (append_assoc (row_bytes r) (flat_map row_bytes rs) (last_comma_bytes tail ++ c ∷ [])) ∙ sym (append_assoc before (row_bytes r) (rows_inside c rs tail []))) len
      (sym (found_later before r rs other) ∙ is)
]

-- ---- heads

-- an item with this opening, of this kind
opened_head : (t : Text) (o : Opening) (u : Text) (k : Kind) → IsOpening o → Stands u → kind_named o.head.type_name ≡ k → t ≡ opening_bytes o ++ u → read_entry_head t ≡ head_after k (o.delimiter, u)
opened_head t o u k is stands named whole =
    let at = opened_with t o u is stands whole in
    ap (head_after (kind_named (read_head t).0)) at.opening
    ∙ ap (λ (n : Text). head_after (kind_named n) (o.delimiter, u)) at.type_name
    ∙ ap (λ (j : Kind). head_after j (o.delimiter, u)) named

-- ---- trees

-- the note of an item that is no entry
plain_note : (t : Text) (n : Note) → read_entry_head t ≡ None → n ≡ note_from 0 None → read_note t ≡ n
plain_note t n none is = ap (note_from (length t)) none ∙ sym is

comment_note : (h : tree.Head) (x : Text) → IsTree name_limit (CommentTree h) → does_not_begin_with is_type_byte x ≡ true → read_note (head_bytes h ++ x) ≡ note_of (CommentTree h)
comment_note h x is ends =
    let head : read_head (head_bytes h ++ x) ≡ (h.type_name, x) = head_again h x is.head ends in
    plain_note (head_bytes h ++ x) _
    (ap (λ (y : Text × Text). head_after (kind_named y.0) (read_opening (after_run is_space y.1))) head
    ∙ ap (λ (k : Kind). head_after k (read_opening (after_run is_space x))) (comment_named h.type_name is.type_name))
    refl

definition_note : (d : tree.Definition) (x : Text) → IsTree name_limit (DefinitionTree d) → read_note (tree_bytes (DefinitionTree d) ++ x) ≡ note_of (DefinitionTree d)
definition_note d x is =
    plain_note (tree_bytes (DefinitionTree d) ++ x) _
    (opened_head _ d.opening _ kind.Macro is.opening (name_stands name_limit d.assignment.name _ is.assignment.name) (definition_named d.opening.head.type_name is.type_name) (definition_shape d x)) refl

preamble_note : (p : tree.Preamble) (x : Text) → IsTree name_limit (PreambleTree p) → read_note (tree_bytes (PreambleTree p) ++ x) ≡ note_of (PreambleTree p)
preamble_note p x is =
    plain_note (tree_bytes (PreambleTree p) ++ x) _
    (opened_head _ p.opening _ kind.Preamble is.opening (value_stands name_limit p.value _ is.value) (preamble_named p.opening.head.type_name is.type_name) (preamble_shape p x)) refl

entry_note : (e : tree.Entry) (x : Text) → IsTree name_limit (EntryTree e) → read_note (tree_bytes (EntryTree e) ++ x) ≡ note_of (EntryTree e)
entry_note e x is =
    let d = e.opening.delimiter in
    let front : Text = opening_bytes e.opening in
    let at = entry_in name_limit e x is in
    let after : Text = after_key_bytes e ++ x in
    let u : Text = e.key ++ after in
    let t : Text = tree_bytes (EntryTree e) ++ x in
    let whole : t ≡ front ++ u = entry_shape e x in
    let head : read_entry_head t ≡ Some (entry_head (d, u)) = opened_head t e.opening u kind.Entry is.opening at.stands (entry_named e.opening.head.type_name is.type_name) whole in
    let key_len : prefix_len (goes_on_key d) u ≡ length e.key = run_len (goes_on_key d) e.key after is.key at.key_ends in
    let rows : after_run is_space (after_run (goes_on_key d) u) ≡ rows_inside (close_byte d) e.rows e.last_comma x = ap (after_run is_space) (run_rest (goes_on_key d) e.key after is.key at.key_ends) ∙ at.rows in
    let inside : Text = rows_inside (close_byte d) e.rows e.last_comma x in
    let before : Text = front ++ e.key ++ e.space_after_key in
    let all : t ≡ before ++ inside = whole ∙ ap (λ (v : Text). front ++ (e.key ++ v)) at.shape ∙ sym (append_assoc (front ++ e.key) e.space_after_key inside ∙ append_assoc front e.key _) in
    let crossref_at : place_left (length t) (crossref_left (after_run is_space (after_run (goes_on_key d) u))) ≡ (note_of (EntryTree e)).crossref_at =
    ap (λ (v : Text). place_left (length t) (crossref_left v)) rows ∙ ap (place_left (length t)) (crossref_left_of e.rows (close_byte d) e.last_comma x is.rows is.last_comma (closes d) at.room)
    ∙ rows_place (length t) (close_byte d) before e.rows e.last_comma x (ap (length {A = ℕ}) all) in
    let key_at : length t - length u ≡ length front = omega (arith, ap (length {A = ℕ}) whole, length-append front u) in
    ap (note_from (length t)) head ∙ (λ i. record { key_at = key_at i; crossref_at = crossref_at i; key_len = key_len i })

pub note_again : (t : Tree) (x : Text) → IsTree name_limit t → EndsName t x → read_note (tree_bytes t ++ x) ≡ note_of t
note_again (CommentTree h) x is ends = comment_note h x is (ends refl)
note_again (DefinitionTree d) x is ends = definition_note d x is
note_again (PreambleTree p) x is ends = preamble_note p x is
note_again (EntryTree e) x is ends = entry_note e x is

-- trees with the same bytes have the same note
pub same_note : (t u : Tree) → IsTree name_limit t → IsTree name_limit u → tree_bytes t ≡ tree_bytes u → note_of t ≡ note_of u
same_note t u is other same = sym (note_again t [] is (λ e. refl)) ∙ ap (λ (b : Text). read_note (b ++ [])) same ∙ note_again u [] other (λ e. refl)

-- ---- a whole file

notes_from : (file front : Text) (items : List Item) → All (IsItem name_limit) items → file ≡ front ++ flat_map item_bytes items → map (note_at file) (spans_from (length front) items) ≡ map (λ item. note_of item.tree) items
notes_from file front [] all split = refl
notes_from file front (i ∷ items) all split =
    let ok = All-head (IsItem name_limit) i items all in
    let others = All-tail (IsItem name_limit) i items all in
    let later : Text = flat_map item_bytes items in
    let rest : Text = i.trail ++ later in
    let here : drop (length front) file ≡ tree_bytes i.tree ++ rest = ap (drop (length front)) split ∙ drop_at front _ _ refl ∙ append_assoc (tree_bytes i.tree) i.trail later in
    let noted : read_note (drop (length front) file) ≡ note_of i.tree = ap read_note here ∙ note_again i.tree rest ok.tree (ends_more i.tree i.trail later ok.trail.ends_name (items_next name_limit items others)) in
    let next : length front + length (item_bytes i) ≡ length (front ++ item_bytes i) = sym (length-append front (item_bytes i)) in
    let more = notes_from file (front ++ item_bytes i) items others (split ∙ sym (append_assoc front (item_bytes i) later)) in
    ap (λ (n : Note). n ∷ map (note_at file) (spans_from (length front + length (item_bytes i)) items)) noted
    ∙ ap (λ (m : ℕ). note_of i.tree ∷ map (note_at file) (spans_from m items)) next
    ∙ ap (λ (ns : List Note). note_of i.tree ∷ ns) more

-- the notes taken where the items of a file begin are the notes of the items
pub notes_all : (file : Text) (db : Reading) → Reads file db → map (note_at file) (places_of db).items ≡ (places_of db).notes
notes_all file db reads = ap (map (note_at file)) (sym (spans_all db)) ∙ notes_from file db.front db.items reads.items (sym reads.bytes)

-- ---- the view that a note leads to

pub noted_view : (body trail key rows : Text) (t : Tree) (n : Note) → IsTree name_limit t → tree_bytes t ≡ body → n ≡ note_of t → 0 < n.key_at → key ≡ take n.key_len (drop n.key_at body) → rows ≡ after_run is_space (drop n.key_len (drop n.key_at body)) →
    record { kind = kind.Entry; body = body; trail = trail; type_name = (read_head body).0; key = key; key_at = n.key_at; fields = all_fields_left kind.Entry (length body) rows } ≡ view_of (record { tree = t; trail = trail })
noted_view body trail key rows (CommentTree h) n is whole noted some key_is rows_are = absurd (omega (arith, some, ap (λ (m : Note). m.key_at) noted))
noted_view body trail key rows (DefinitionTree d) n is whole noted some key_is rows_are = absurd (omega (arith, some, ap (λ (m : Note). m.key_at) noted))
noted_view body trail key rows (PreambleTree p) n is whole noted some key_is rows_are = absurd (omega (arith, some, ap (λ (m : Note). m.key_at) noted))
noted_view body trail key rows (EntryTree e) n is whole noted some key_is rows_are =
    let front : Text = opening_bytes e.opening in
    let after : Text = after_key_bytes e in
    let shape : body ≡ front ++ (e.key ++ after) = sym whole ∙ append_assoc front e.key after in
    let stands : Stands (e.key ++ after) = subst (λ (v : Text). Stands (e.key ++ v)) (append-nil after) (entry_in name_limit e [] is).stands in
    let named = (opened_with body e.opening _ is.opening stands shape).type_name in
    let key_at : n.key_at ≡ length front = ap (λ (m : Note). m.key_at) noted in
    let key_len : n.key_len ≡ length e.key = ap (λ (m : Note). m.key_len) noted in
    let from_key : drop n.key_at body ≡ e.key ++ after = ap (drop n.key_at) shape ∙ drop_at front _ _ (sym key_at) in
    let key_same : key ≡ e.key = key_is ∙ ap (take n.key_len) from_key ∙ take_at e.key after _ (sym key_len) in
    let rows_same : rows ≡ after_run is_space after = rows_are ∙ ap (λ (u : Text). after_run is_space (drop n.key_len u)) from_key ∙ ap (after_run is_space) (drop_at e.key after _ (sym key_len)) in
    let fields = ap (λ (b : Text). all_fields_left kind.Entry (length b) rows) (sym whole) ∙ ap (all_fields_left kind.Entry (length (tree_bytes (EntryTree e)))) rows_same ∙ entry_fields e is in
    λ i. record {
      kind = kind.Entry;
      body = sym whole i;
      trail = trail;
      type_name = named i;
      key = key_same i;
      key_at = key_at i;
      fields = fields i;
    }

-- ---- the crossref that a note leads to

-- no row is named `crossref`, or the field is read at the place in the note
pub record NotedCrossref (body : Text) (t : Tree) (n : Note) : Type 0 where
  pub none : n.crossref_at ≡ 0 → crossref_field t ≡ None
  pub some : 0 < n.crossref_at → (f : Field) × (rest : Text) × (crossref_field t ≡ Some f) × (first_field kind.Entry (length body) (drop n.crossref_at body) ≡ Some (f, rest)) × (n.crossref_at ≤ length body)

some_left : (total : ℕ) (t : Text) (y : Field × Text) → first_field kind.Entry total t ≡ Some y → 0 < length t
some_left total [] y is = absurd (none-some y is)
some_left total (b ∷ t) y is = omega arith

plain_crossref : (body : Text) (t : Tree) (n : Note) → crossref_field t ≡ None → n.crossref_at ≡ 0 → NotedCrossref body t n
plain_crossref body t n none zero_at = record { none = λ is. none; some = λ more. absurd (omega (arith, zero_at)) }

pub noted_crossref : (body : Text) (t : Tree) (n : Note) → IsTree name_limit t → tree_bytes t ≡ body → n ≡ note_of t → NotedCrossref body t n
noted_crossref body (CommentTree h) n is whole noted = plain_crossref body _ n refl (ap (λ (m : Note). m.crossref_at) noted)
noted_crossref body (DefinitionTree d) n is whole noted = plain_crossref body _ n refl (ap (λ (m : Note). m.crossref_at) noted)
noted_crossref body (PreambleTree p) n is whole noted = plain_crossref body _ n refl (ap (λ (m : Note). m.crossref_at) noted)
noted_crossref body (EntryTree e) n is whole noted = go (crossref_field (EntryTree e)) refl
  where
    at : n.crossref_at ≡ (note_of (EntryTree e)).crossref_at
    at = ap (λ (m : Note). m.crossref_at) noted

    go : (o : Option Field) → crossref_field (EntryTree e) ≡ o → NotedCrossref body (EntryTree e) n
    go None none = plain_crossref body (EntryTree e) n none (at ∙ ap (λ (o : Option Field). option_map_or (λ (f : Field). f.start) o 0) none)
    go (Some f) some =
        let front : Text = opening_bytes e.opening ++ e.key ++ e.space_after_key in
        let c = close_byte e.opening.delimiter in
        let inside : Text = rows_inside c e.rows e.last_comma [] in
        let start : n.crossref_at ≡ f.start = at ∙ ap (λ (o : Option Field). option_map_or (λ (g : Field). g.start) o 0) some in
        let split : body ≡ front ++ inside =
        sym whole ∙ append_assoc (opening_bytes e.opening) e.key (after_key_bytes e) ∙ ap (λ (v : Text). opening_bytes e.opening ++ (e.key ++ v)) (sym (append-nil (after_key_bytes e)) ∙ (entry_in name_limit e [] is).shape)
        ∙ sym (append_assoc (opening_bytes e.opening ++ e.key) e.space_after_key inside ∙ append_assoc (opening_bytes e.opening) e.key _) in
        let here = found_again (length body) c front body e.rows e.last_comma f is.rows (closes e.opening.delimiter) split refl some in
        let read : first_field kind.Entry (length body) (drop n.crossref_at body) ≡ Some (f, here.0) = ap (λ (m : ℕ). first_field kind.Entry (length body) (drop m body)) start ∙ here.1 in
        record {
          none = λ zero_at. absurd (omega (arith, zero_at, start, found_after front e.rows f some, length-append (opening_bytes e.opening ++ e.key) e.space_after_key, length-append (opening_bytes e.opening) e.key));
          some = λ more. (f, here.0, some, read, omega (arith, some_left (length body) (drop n.crossref_at body) (f, here.0) read, length-drop n.crossref_at body));
        }

-- the field read at the place in the note is the first field named `crossref`
pub crossref_read : (body : Text) (t : Tree) (n : Note) → IsTree name_limit t → tree_bytes t ≡ body → n ≡ note_of t → 0 < n.crossref_at → (r : Result (Field × Text) Halt) → read_row_field (length body) (drop n.crossref_at body) ≡ r →
    option_map (λ x. x.0) (result_ok r) ≡ crossref_field t
crossref_read body t n is whole noted more r read =
    let there = (noted_crossref body t n is whole noted).some more in
    ap (λ (q : Result (Field × Text) Halt). option_map (λ (x : Field × Text). x.0) (result_ok q)) (sym read) ∙ ap (option_map (λ (x : Field × Text). x.0)) there.3 ∙ sym there.2
