-- The view that is read from left to right is the view of the item.
use Rattle.bib_scan.proofs.Words.{◌≡◌, ℕ, ◌-◌, true, List, [], ◌∷◌, ◌++◌, length, refl, sym, ap, subst, ◌∙◌, arith, append_assoc, append-nil, not_from_false, not-true, or_parts, cond-true, cond-false, length-append, codes, take_while, AllPass, name_limit, Text, is_space, is_type_byte, same}
use Rattle.bib_scan.proofs.Words.{after_run, does_not_begin_with, Tree, CommentTree, DefinitionTree, PreambleTree, EntryTree, Head, Opening, Delimiter, Brace, value_bytes, head_bytes, opening_bytes, open_byte, close_byte, after_key_bytes, tree_bytes, goes_on_key}
use Rattle.bib_scan.proofs.Words.{is_no_keyword, IsHead, IsOpening, IsTree, Field, view_of, fields_left, all_fields_left, read_head, kind_named, read_opening, Kind}
use Rattle.bib_spec.specs.Tree as tree
use Rattle.bib_scan.specs.View.{fields_of}
use Rattle.bib_scan.specs.FieldsLeft.{first_row, view_after, read_view}
use Rattle.bib_scan.specs.declared.view.Kind.TheVariants as kind
use Rattle.bib_scan.proofs.RunLaws.{run_front, run_rest}
use Rattle.bib_scan.proofs.PartLaws.{type_name_parts}
use Rattle.bib_scan.proofs.ValueLaws.{Stands, skip_space}
use Rattle.bib_scan.proofs.RowLaws.{assignment_inside}
use Rattle.bib_scan.proofs.AgainLaws.{name_stands, value_stands, rows_inside}
use Rattle.bib_scan.proofs.TreeAgainLaws.{closes, delimiter_again, open_no_space, type_ends, entry_in, string_no_comment, preamble_no_comment, preamble_no_string, head_shape, opening_shape, definition_shape, preamble_shape}
use Rattle.bib_scan.proofs.FieldLaws.{rows_fields_again, definition_field_again, preamble_field_again}

-- ---- heads

-- a head, and a text that does not continue its type name
pub head_again : (h : Head) (x : Text) → IsHead h → does_not_begin_with is_type_byte x ≡ true → read_head (head_bytes h ++ x) ≡ (h.type_name, x)
head_again h x is ends =
    let named_well = type_name_parts h.type_name is.type_name in
    let e1 : after_run is_space (h.space_before_type ++ (h.type_name ++ x)) ≡ h.type_name ++ x = skip_space h.space_before_type (h.type_name ++ x) is.space_before_type (name_stands name_limit h.type_name x named_well.0) in
    let e2 : take_while is_type_byte (h.type_name ++ x) ≡ h.type_name = run_front is_type_byte h.type_name x named_well.1 ends in
    let e3 : after_run is_type_byte (h.type_name ++ x) ≡ x = run_rest is_type_byte h.type_name x named_well.1 ends in
    ap read_head (head_shape h x) ∙ ap (λ (t : Text). (take_while is_type_byte t, after_run is_type_byte t)) e1 ∙ (λ i. (e2 i, e3 i))

opening_again : (d : Delimiter) (s u : Text) → AllPass is_space s → Stands u → read_opening (open_byte d ∷ (s ++ u)) ≡ (d, u)
opening_again d s u space stands = λ i. (delimiter_again d i, skip_space s u space stands i)

-- reading a text that begins with this opening
pub record OpenedWith (t : Text) (o : Opening) (u : Text) : Type 0 where
  pub type_name : (read_head t).0 ≡ o.head.type_name
  pub opening : read_opening (after_run is_space (read_head t).1) ≡ (o.delimiter, u)

pub opened_with : (t : Text) (o : Opening) (u : Text) → IsOpening o → Stands u → t ≡ opening_bytes o ++ u → OpenedWith t o u
opened_with t o u is stands whole =
    let inside : Text = open_byte o.delimiter ∷ (o.space_after ++ u) in
    let after : Text = o.space_before_delimiter ++ inside in
    let shape : t ≡ head_bytes o.head ++ after = whole ∙ opening_shape o u ∙ sym (head_shape o.head after) in
    let head : read_head t ≡ (o.head.type_name, after) = ap read_head shape ∙ head_again o.head after is.head (type_ends o.space_before_delimiter o.delimiter (o.space_after ++ u) is.space_before_delimiter) in
    let skipped : after_run is_space after ≡ inside = skip_space o.space_before_delimiter inside is.space_before_delimiter (not_from_false _ (open_no_space o.delimiter)) in
    record {
      type_name = ap (λ (h : Text × Text). h.0) head;
      opening = ap (λ (h : Text × Text). read_opening (after_run is_space h.1)) head ∙ ap read_opening skipped ∙ opening_again o.delimiter o.space_after u is.space_after stands;
    }

-- a body that begins with this opening
opened_again : (body trail : Text) (o : Opening) (u : Text) (k : Kind) → IsOpening o → Stands u → kind_named o.head.type_name ≡ k → body ≡ opening_bytes o ++ u → read_view body trail ≡ view_after body trail o.head.type_name k (o.delimiter, u)
opened_again body trail o u k is stands named whole =
    let at = opened_with body o u is stands whole in
    ap (λ (q : Delimiter × Text). view_after body trail (read_head body).0 (kind_named (read_head body).0) q) at.opening
    ∙ ap (λ (n : Text). view_after body trail n (kind_named n) (o.delimiter, u)) at.type_name
    ∙ ap (λ (j : Kind). view_after body trail o.head.type_name j (o.delimiter, u)) named

-- ---- kinds

pub comment_named : (t : Text) → same t (codes "comment") ≡ true → kind_named t ≡ kind.Comment
comment_named t is = cond-true (same t (codes "comment")) _ _ is

pub definition_named : (t : Text) → same t (codes "string") ≡ true → kind_named t ≡ kind.Macro
definition_named t is = cond-false (same t (codes "comment")) _ _ (string_no_comment t is) ∙ cond-true (same t (codes "string")) _ _ is

pub preamble_named : (t : Text) → same t (codes "preamble") ≡ true → kind_named t ≡ kind.Preamble
preamble_named t is =
    cond-false (same t (codes "comment")) _ _ (preamble_no_comment t is) ∙ cond-false (same t (codes "string")) _ _ (preamble_no_string t is) ∙ cond-true (same t (codes "preamble")) _ _ is

pub entry_named : (t : Text) → is_no_keyword t ≡ true → kind_named t ≡ kind.Entry
entry_named t is =
    let none = or_parts _ _ (not-true _ is) in
    let first = or_parts _ _ none.0 in
    cond-false (same t (codes "comment")) _ _ first.0 ∙ cond-false (same t (codes "string")) _ _ first.1 ∙ cond-false (same t (codes "preamble")) _ _ none.1

-- ---- views

comment_view : (h : Head) (trail : Text) → IsTree name_limit (CommentTree h) → read_view (head_bytes h) trail ≡ view_of (record { tree = CommentTree h; trail = trail })
unfolding fields_left
comment_view h trail is =
    let body : Text = head_bytes h in
    let head : read_head body ≡ (h.type_name, []) = ap read_head (sym (append-nil body)) ∙ head_again h [] is.head refl in
    ap (λ (x : Text × Text). view_after body trail x.0 (kind_named x.0) (read_opening (after_run is_space x.1))) head
    ∙ ap (λ (k : Kind). view_after body trail h.type_name k (Brace, [])) (comment_named h.type_name is.type_name)

definition_view : (d : tree.Definition) (trail : Text) → IsTree name_limit (DefinitionTree d) → read_view (tree_bytes (DefinitionTree d)) trail ≡ view_of (record { tree = DefinitionTree d; trail = trail })
definition_view d trail is =
    let body : Text = tree_bytes (DefinitionTree d) in
    let c = close_byte d.opening.delimiter in
    let u : Text = assignment_inside d.assignment (c ∷ []) in
    let whole : body ≡ opening_bytes d.opening ++ u = sym (append-nil body) ∙ definition_shape d [] in
    let read = opened_again body trail d.opening u kind.Macro is.opening (name_stands name_limit d.assignment.name _ is.assignment.name) (definition_named d.opening.head.type_name is.type_name) whole in
    let field = definition_field_again (length body) (opening_bytes d.opening) d.assignment c [] is.assignment (closes d.opening.delimiter).ends (ap (length {A = ℕ}) whole) in
    read ∙ ap (λ (fs : List Field). record (view_of (record { tree = DefinitionTree d; trail = trail })) { fields = fs }) field

preamble_view : (p : tree.Preamble) (trail : Text) → IsTree name_limit (PreambleTree p) → read_view (tree_bytes (PreambleTree p)) trail ≡ view_of (record { tree = PreambleTree p; trail = trail })
preamble_view p trail is =
    let body : Text = tree_bytes (PreambleTree p) in
    let c = close_byte p.opening.delimiter in
    let u : Text = value_bytes p.value ++ (p.space_after ++ c ∷ []) in
    let whole : body ≡ opening_bytes p.opening ++ u = sym (append-nil body) ∙ preamble_shape p [] in
    let read = opened_again body trail p.opening u kind.Preamble is.opening (value_stands name_limit p.value _ is.value) (preamble_named p.opening.head.type_name is.type_name) whole in
    let field = preamble_field_again (length body) (opening_bytes p.opening) p.value p.space_after c [] is.value is.space_after (closes p.opening.delimiter).ends (ap (length {A = ℕ}) whole) in
    read ∙ ap (λ (fs : List Field). record (view_of (record { tree = PreambleTree p; trail = trail })) { fields = fs }) field

-- the fields of an entry are read after its key
pub entry_fields : (e : tree.Entry) → IsTree name_limit (EntryTree e) → all_fields_left kind.Entry (length (tree_bytes (EntryTree e))) (after_run is_space (after_key_bytes e)) ≡ fields_of (EntryTree e)
entry_fields e is =
    let c = close_byte e.opening.delimiter in
    let front : Text = opening_bytes e.opening in
    let inside : Text = rows_inside c e.rows e.last_comma [] in
    let at = entry_in name_limit e [] is in
    let after : after_key_bytes e ≡ after_key_bytes e ++ [] = sym (append-nil (after_key_bytes e)) in
    let before : Text = front ++ e.key ++ e.space_after_key in
    let whole : tree_bytes (EntryTree e) ≡ before ++ inside =
    append_assoc front e.key (after_key_bytes e) ∙ ap (λ (v : Text). front ++ (e.key ++ v)) (after ∙ at.shape) ∙ sym (append_assoc (front ++ e.key) e.space_after_key inside ∙ append_assoc front e.key _) in
    ap (λ (u : Text). all_fields_left kind.Entry (length (tree_bytes (EntryTree e))) (after_run is_space u)) after
    ∙ ap (all_fields_left kind.Entry (length (tree_bytes (EntryTree e)))) at.rows
    ∙ rows_fields_again e.rows (length inside) _ c before e.last_comma [] is.rows is.last_comma (closes e.opening.delimiter) at.room (ap (length {A = ℕ}) whole)

entry_view : (e : tree.Entry) (trail : Text) → IsTree name_limit (EntryTree e) → read_view (tree_bytes (EntryTree e)) trail ≡ view_of (record { tree = EntryTree e; trail = trail })
entry_view e trail is =
    let body : Text = tree_bytes (EntryTree e) in
    let d = e.opening.delimiter in
    let front : Text = opening_bytes e.opening in
    let after : Text = after_key_bytes e in
    let u : Text = e.key ++ after in
    let stands : Stands u = subst (λ (v : Text). Stands (e.key ++ v)) (append-nil after) (entry_in name_limit e [] is).stands in
    let whole : body ≡ front ++ u = append_assoc front e.key after in
    let read = opened_again body trail e.opening u kind.Entry is.opening stands (entry_named e.opening.head.type_name is.type_name) whole in
    let key : take_while (goes_on_key d) u ≡ e.key = run_front (goes_on_key d) e.key after is.key is.key_ends in
    let key_at : length body - length u ≡ length front = omega (arith, ap (length {A = ℕ}) whole, length-append front u) in
    let fields = ap (λ (v : Text). all_fields_left kind.Entry (length body) (after_run is_space v)) (run_rest (goes_on_key d) e.key after is.key is.key_ends) ∙ entry_fields e is in
    read ∙ (λ i. record {
      kind = kind.Entry;
      body = body;
      trail = trail;
      type_name = e.opening.head.type_name;
      key = key i;
      key_at = key_at i;
      fields = fields i;
    })

pub view_again : (t : Tree) (trail : Text) → IsTree name_limit t → read_view (tree_bytes t) trail ≡ view_of (record { tree = t; trail = trail })
view_again (CommentTree h) trail is = comment_view h trail is
view_again (DefinitionTree d) trail is = definition_view d trail is
view_again (PreambleTree p) trail is = preamble_view p trail is
view_again (EntryTree e) trail is = entry_view e trail is

-- ---- what the code finds

-- the head, kind and opening of a body lead to the view of its item
pub view_found : (body trail : Text) (head : Text × Text) (k : Kind) (opened : Delimiter × Text) (t : Tree) → head ≡ read_head body → k ≡ kind_named head.0 → opened ≡ read_opening (after_run is_space head.1) → IsTree name_limit t → tree_bytes t ≡ body → view_after body trail head.0 k opened ≡ view_of (record { tree = t; trail = trail })
view_found body trail head k opened t head_is k_is opened_is is whole =
    ap (λ (j : Kind). view_after body trail head.0 j opened) k_is
    ∙ ap (λ (q : Delimiter × Text). view_after body trail head.0 (kind_named head.0) q) opened_is
    ∙ ap (λ (x : Text × Text). view_after body trail x.0 (kind_named x.0) (read_opening (after_run is_space x.1))) head_is
    ∙ ap (λ (b : Text). read_view b trail) (sym whole) ∙ view_again t trail is

-- an item that is no entry has no key
pub plain_view : (body trail type_name : Text) (k : Kind) (opened : Delimiter × Text) → (k ≡ kind.Entry → ⊥) → view_after body trail type_name k opened ≡ record { kind = k; body = body; trail = trail; type_name = type_name; key = []; key_at = 0; fields = all_fields_left k (length body) (first_row k opened.1) }
plain_view body trail type_name kind.Entry opened other = absurd (other refl)
plain_view body trail type_name kind.Macro opened other = refl
plain_view body trail type_name kind.Preamble opened other = refl
plain_view body trail type_name kind.Comment opened other = refl
