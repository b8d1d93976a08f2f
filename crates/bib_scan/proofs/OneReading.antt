-- No text has two readings.
use Rattle.bib_scan.proofs.Words.{◌≡◌, ℕ, ◌<◌, true, false, List, [], ◌∷◌, ◌++◌, length, take, drop, refl, sym, ap, subst, ◌∙◌, arith, append_assoc, both_ways, not_from_false, not-true, or_parts, length-append, take_at, drop_at, All-head, All-tail, codes, AllPass, flat_map, All, name_limit, Text}
use Rattle.bib_scan.proofs.Words.{is_space, is_type_byte, same, does_not_begin_with, Entry, Definition, Preamble, Head, Opening, Delimiter, Brace, Paren, Tree, CommentTree, DefinitionTree, PreambleTree, EntryTree, value_bytes, row_bytes, last_comma_bytes, open_byte, close_byte, after_key_bytes}
use Rattle.bib_scan.proofs.Words.{tree_bytes, goes_on_key, is_no_keyword, IsHead, IsOpening, IsDefinition, IsPreamble, IsEntry, IsTree, Item, Reading, item_bytes, bytes_of, IsItem, ReadsWithin, next_command}
use Rattle.bib_scan.proofs.PartLaws.{type_name_parts}
use Rattle.bib_scan.proofs.ValueLaws.{Stands}
use Rattle.bib_scan.proofs.RowLaws.{assignment_inside}
use Rattle.bib_scan.proofs.CommandLaws.{EndsName}
use Rattle.bib_scan.proofs.AgainLaws.{name_stands, value_stands, rows_inside}
use Rattle.bib_scan.proofs.TreeAgainLaws.{closes, key_stands, stops_more, open_no_space, type_ends, head_shape, opening_shape, definition_shape, preamble_shape, entry_shape, definition_row, is_definition_row, string_no_comment, preamble_no_comment, preamble_no_string}
use Rattle.bib_scan.proofs.CleanLaws.{next_again}
use Rattle.bib_scan.proofs.ReadingLaws.{ends_more, items_next, some_bytes}
use Rattle.bib_scan.proofs.UniqueLaws.{run_unique, tail_same, value_unique, AfterRow, after_row_stands, after_value, after_rows, row_unique, rows_unique}

-- ---- the head of a tree

abbrev head_of : Tree → Head
head_of (CommentTree h) = h
head_of (DefinitionTree d) = d.opening.head
head_of (PreambleTree p) = p.opening.head
head_of (EntryTree e) = e.opening.head

-- the bytes after the type name, if the opening continues to `u`
abbrev opened_text : Opening → Text → Text
opened_text o u = o.space_before_delimiter ++ (open_byte o.delimiter ∷ (o.space_after ++ u))

abbrev definition_inside : Definition → Text → Text
definition_inside d x = assignment_inside d.assignment (close_byte d.opening.delimiter ∷ x)

abbrev preamble_inside : Preamble → Text → Text
preamble_inside p x = value_bytes p.value ++ (p.space_after ++ close_byte p.opening.delimiter ∷ x)

abbrev entry_inside : Entry → Text → Text
entry_inside e x = e.key ++ (after_key_bytes e ++ x)

abbrev after_of : Tree → Text → Text
after_of (CommentTree h) x = x
after_of (DefinitionTree d) x = opened_text d.opening (definition_inside d x)
after_of (PreambleTree p) x = opened_text p.opening (preamble_inside p x)
after_of (EntryTree e) x = opened_text e.opening (entry_inside e x)

tree_shape : (t : Tree) (x : Text) → tree_bytes t ++ x ≡ 64 ∷ ((head_of t).space_before_type ++ ((head_of t).type_name ++ after_of t x))
tree_shape (CommentTree h) x = head_shape h x
tree_shape (DefinitionTree d) x = definition_shape d x ∙ opening_shape d.opening _
tree_shape (PreambleTree p) x = preamble_shape p x ∙ opening_shape p.opening _
tree_shape (EntryTree e) x = entry_shape e x ∙ opening_shape e.opening _

pub record Headed (t : Tree) (x : Text) : Type 0 where
  pub head : IsHead (head_of t)
  pub ends : does_not_begin_with is_type_byte (after_of t x) ≡ true

opened_head : (o : Opening) (u : Text) → IsOpening o → does_not_begin_with is_type_byte (opened_text o u) ≡ true
opened_head o u is = type_ends o.space_before_delimiter o.delimiter (o.space_after ++ u) is.space_before_delimiter

headed : (limit : ℕ) (t : Tree) (x : Text) → IsTree limit t → EndsName t x → Headed t x
headed limit (CommentTree h) x is ends = record { head = is.head; ends = ends refl }
headed limit (DefinitionTree d) x is ends = record { head = is.opening.head; ends = opened_head d.opening _ is.opening }
headed limit (PreambleTree p) x is ends = record { head = is.opening.head; ends = opened_head p.opening _ is.opening }
headed limit (EntryTree e) x is ends = record { head = is.opening.head; ends = opened_head e.opening _ is.opening }

pub record SameHead (t u : Tree) (x y : Text) : Type 0 where
  pub head : head_of t ≡ head_of u
  pub after : after_of t x ≡ after_of u y

head_unique : (t u : Tree) (x y : Text) → Headed t x → Headed u y → tree_bytes t ++ x ≡ tree_bytes u ++ y → SameHead t u x y
head_unique t u x y ht hu e =
    let ht_named = type_name_parts (head_of t).type_name ht.head.type_name in
    let hu_named = type_name_parts (head_of u).type_name hu.head.type_name in
    let whole = tail_same 64 64 _ _ (sym (tree_shape t x) ∙ e ∙ tree_shape u y) in
    let one = run_unique is_space (head_of t).space_before_type (head_of u).space_before_type ((head_of t).type_name ++ after_of t x) ((head_of u).type_name ++ after_of u y) ht.head.space_before_type hu.head.space_before_type (name_stands name_limit (head_of t).type_name (after_of t x) ht_named.0) (name_stands name_limit (head_of u).type_name (after_of u y) hu_named.0) whole in
    let two = run_unique is_type_byte (head_of t).type_name (head_of u).type_name (after_of t x) (after_of u y) ht_named.1 hu_named.1 ht.ends hu.ends one.1 in
    record { head = λ i. record { space_before_type = one.0 i; type_name = two.0 i }; after = two.1 }

-- ---- openings

open_unique : (d e : Delimiter) (t u : Text) → open_byte d ∷ t ≡ open_byte e ∷ u → (d ≡ e) × (t ≡ u)
open_unique Brace Brace t u e = (refl, cc)
open_unique Brace Paren t u e = let wrong : ◌≡◌ {A = ℕ} 123 40 = cc in absurd (omega arith)
open_unique Paren Brace t u e = let wrong : ◌≡◌ {A = ℕ} 40 123 = cc in absurd (omega arith)
open_unique Paren Paren t u e = (refl, cc)

pub record SameOpened (o q : Opening) (t u : Text) : Type 0 where
  pub space_before_delimiter : o.space_before_delimiter ≡ q.space_before_delimiter
  pub delimiter : o.delimiter ≡ q.delimiter
  pub after : o.space_after ++ t ≡ q.space_after ++ u

opened_unique : (o q : Opening) (t u : Text) → IsOpening o → IsOpening q → opened_text o t ≡ opened_text q u → SameOpened o q t u
opened_unique o q t u io iq e =
    let one = run_unique is_space o.space_before_delimiter q.space_before_delimiter (open_byte o.delimiter ∷ (o.space_after ++ t)) (open_byte q.delimiter ∷ (q.space_after ++ u)) io.space_before_delimiter iq.space_before_delimiter (not_from_false _ (open_no_space o.delimiter)) (not_from_false _ (open_no_space q.delimiter)) e in
    let two = open_unique o.delimiter q.delimiter (o.space_after ++ t) (q.space_after ++ u) one.1 in
    record { space_before_delimiter = one.0; delimiter = two.0; after = two.1 }

-- ---- trees of one kind

after_close : (d : Delimiter) (x : Text) → AfterRow (close_byte d ∷ x)
after_close d x = record { first = close_byte d; others = x; ends = (closes d).ends; is = refl }

pub definition_unique : (limit : ℕ) (d e : Definition) (x y : Text) → IsDefinition limit d → IsDefinition limit e → SameHead (DefinitionTree d) (DefinitionTree e) x y → (d ≡ e) × (x ≡ y)
definition_unique limit d e x y id ie h =
    let o = opened_unique d.opening e.opening (definition_inside d x) (definition_inside e y) id.opening ie.opening h.after in
    let r = row_unique limit (definition_row d) (definition_row e) (close_byte d.opening.delimiter ∷ x) (close_byte e.opening.delimiter ∷ y) (is_definition_row limit d id) (is_definition_row limit e ie) (after_close d.opening.delimiter x) (after_close e.opening.delimiter y) o.after in (
      (λ i. record {
        opening = record { head = h.head i; space_before_delimiter = o.space_before_delimiter i; delimiter = o.delimiter i; space_after = (r.0 i).space_before_name };
        assignment = (r.0 i).assignment;
      }),
      tail_same _ _ x y r.1,
    )

pub preamble_unique : (limit : ℕ) (p q : Preamble) (x y : Text) → IsPreamble limit p → IsPreamble limit q → SameHead (PreambleTree p) (PreambleTree q) x y → (p ≡ q) × (x ≡ y)
preamble_unique limit p q x y ip iq h =
    let o = opened_unique p.opening q.opening (preamble_inside p x) (preamble_inside q y) ip.opening iq.opening h.after in
    let px : Text = close_byte p.opening.delimiter ∷ x in
    let qy : Text = close_byte q.opening.delimiter ∷ y in
    let one = run_unique is_space p.opening.space_after q.opening.space_after (preamble_inside p x) (preamble_inside q y) ip.opening.space_after iq.opening.space_after (value_stands limit p.value (p.space_after ++ px) ip.value) (value_stands limit q.value (q.space_after ++ qy) iq.value) o.after in
    let two = value_unique limit p.value q.value (p.space_after ++ px) (q.space_after ++ qy) ip.value iq.value (after_value p.space_after px ip.space_after (after_close p.opening.delimiter x)) (after_value q.space_after qy iq.space_after (after_close q.opening.delimiter y)) one.1 in
    let three = run_unique is_space p.space_after q.space_after px qy ip.space_after iq.space_after (after_row_stands px (after_close p.opening.delimiter x)) (after_row_stands qy (after_close q.opening.delimiter y)) two.1 in (
      (λ i. record {
        opening = record { head = h.head i; space_before_delimiter = o.space_before_delimiter i; delimiter = o.delimiter i; space_after = one.0 i };
        value = two.0 i;
        space_after = three.0 i;
      }),
      tail_same _ _ x y three.1,
    )

-- an entry's bytes after its opening, with the facts that determine them
key_shape : (e : Entry) (x : Text) → after_key_bytes e ++ x ≡ e.space_after_key ++ rows_inside (close_byte e.opening.delimiter) e.rows e.last_comma x
key_shape e x =
    let c = close_byte e.opening.delimiter in
    append_assoc (e.space_after_key ++ flat_map row_bytes e.rows ++ last_comma_bytes e.last_comma) (c ∷ []) x ∙ append_assoc (e.space_after_key ++ flat_map row_bytes e.rows) (last_comma_bytes e.last_comma) (c ∷ x) ∙ append_assoc e.space_after_key (flat_map row_bytes e.rows) (last_comma_bytes e.last_comma ++ c ∷ x)

inside_stands : (e : Entry) (x : Text) → Stands (rows_inside (close_byte e.opening.delimiter) e.rows e.last_comma x)
inside_stands e x = after_row_stands _ (after_rows (close_byte e.opening.delimiter) e.rows e.last_comma x (closes e.opening.delimiter))

entry_stands : (limit : ℕ) (e : Entry) (x : Text) → IsEntry limit e → Stands (entry_inside e x)
entry_stands limit e x is =
    key_stands e.opening.delimiter e.key (after_key_bytes e ++ x) is.key (λ none. subst Stands (sym (key_shape e x ∙ ap (λ (u : Text). u ++ rows_inside (close_byte e.opening.delimiter) e.rows e.last_comma x) (is.empty_key none))) (inside_stands e x))

key_stop : (limit : ℕ) (e : Entry) (x : Text) → IsEntry limit e → does_not_begin_with (goes_on_key e.opening.delimiter) (after_key_bytes e ++ x) ≡ true
key_stop limit e x is =
    let long : 0 < length (after_key_bytes e) = omega (arith, length-append (e.space_after_key ++ flat_map row_bytes e.rows ++ last_comma_bytes e.last_comma) (close_byte e.opening.delimiter ∷ [])) in
    stops_more (goes_on_key e.opening.delimiter) (after_key_bytes e) x long is.key_ends

pub entry_unique : (limit : ℕ) (e f : Entry) (x y : Text) → IsEntry limit e → IsEntry limit f → SameHead (EntryTree e) (EntryTree f) x y → (e ≡ f) × (x ≡ y)
entry_unique limit e f x y ie jf h =
    let o = opened_unique e.opening f.opening (entry_inside e x) (entry_inside f y) ie.opening jf.opening h.after in
    let d = e.opening.delimiter in
    let back = sym o.delimiter in
    let one = run_unique is_space e.opening.space_after f.opening.space_after (entry_inside e x) (entry_inside f y) ie.opening.space_after jf.opening.space_after (entry_stands limit e x ie) (entry_stands limit f y jf) o.after in
    let two = run_unique (goes_on_key d) e.key f.key (after_key_bytes e ++ x) (after_key_bytes f ++ y) ie.key (subst (λ (g : Delimiter). AllPass (goes_on_key g) f.key) back jf.key) (key_stop limit e x ie) (subst (λ (g : Delimiter). does_not_begin_with (goes_on_key g) (after_key_bytes f ++ y) ≡ true) back (key_stop limit f y jf)) one.1 in
    let c = close_byte d in
    let inside_e : Text = rows_inside c e.rows e.last_comma x in
    let inside_f : Text = rows_inside (close_byte f.opening.delimiter) f.rows f.last_comma y in
    let three = run_unique is_space e.space_after_key f.space_after_key inside_e inside_f ie.space_after_key jf.space_after_key (inside_stands e x) (inside_stands f y) (sym (key_shape e x) ∙ two.1 ∙ key_shape f y) in
    let four = rows_unique limit c e.rows f.rows e.last_comma f.last_comma x y (closes d) ie.rows jf.rows ie.last_comma jf.last_comma (three.1 ∙ ap (λ (g : Delimiter). rows_inside (close_byte g) f.rows f.last_comma y) back) in (
      (λ i. record {
        opening = record { head = h.head i; space_before_delimiter = o.space_before_delimiter i; delimiter = o.delimiter i; space_after = one.0 i };
        key = two.0 i;
        space_after_key = three.0 i;
        rows = four.0 i;
        last_comma = four.1 i;
      }),
      four.2,
    )

-- ---- trees

-- the type names of trees of two kinds differ
clash : (a b word : Text) → a ≡ b → same a word ≡ true → same b word ≡ false → ⊥
clash a b word e yes_it no_it = both_ways (same b word) no_it (subst (λ (t : Text). same t word ≡ true) e yes_it)

entry_no : (t : Text) → is_no_keyword t ≡ true → (same t (codes "comment") ≡ false) × (same t (codes "string") ≡ false) × (same t (codes "preamble") ≡ false)
entry_no t is =
    let last = or_parts _ _ (not-true _ is) in
    let first = or_parts _ _ last.0 in
    (first.0, first.1, last.1)

same_kind : (limit : ℕ) (t u : Tree) (x y : Text) → IsTree limit t → IsTree limit u → SameHead t u x y → (t ≡ u) × (x ≡ y)
same_kind limit (CommentTree f) (CommentTree g) x y it iu h = ((λ i. CommentTree (h.head i)), h.after)
same_kind limit (CommentTree g) (DefinitionTree e) x y it iu h = absurd (clash _ e.opening.head.type_name (codes "comment") (ap (λ (w : Head). w.type_name) h.head) it.type_name (string_no_comment e.opening.head.type_name iu.type_name))
same_kind limit (CommentTree g) (PreambleTree e) x y it iu h = absurd (clash _ e.opening.head.type_name (codes "comment") (ap (λ (w : Head). w.type_name) h.head) it.type_name (preamble_no_comment e.opening.head.type_name iu.type_name))
same_kind limit (CommentTree g) (EntryTree e) x y it iu h = absurd (clash _ e.opening.head.type_name (codes "comment") (ap (λ (w : Head). w.type_name) h.head) it.type_name (entry_no e.opening.head.type_name iu.type_name).0)
same_kind limit (DefinitionTree d) (CommentTree g) x y it iu h = absurd (clash _ d.opening.head.type_name (codes "comment") (sym (ap (λ (w : Head). w.type_name) h.head)) iu.type_name (string_no_comment d.opening.head.type_name it.type_name))
same_kind limit (DefinitionTree d) (DefinitionTree e) x y it iu h = let w = definition_unique limit d e x y it iu h in ((λ i. DefinitionTree (w.0 i)), w.1)
same_kind limit (DefinitionTree d) (PreambleTree e) x y it iu h = absurd (clash _ e.opening.head.type_name (codes "string") (ap (λ (w : Head). w.type_name) h.head) it.type_name (preamble_no_string e.opening.head.type_name iu.type_name))
same_kind limit (DefinitionTree d) (EntryTree e) x y it iu h = absurd (clash _ e.opening.head.type_name (codes "string") (ap (λ (w : Head). w.type_name) h.head) it.type_name (entry_no e.opening.head.type_name iu.type_name).1)
same_kind limit (PreambleTree d) (CommentTree g) x y it iu h = absurd (clash _ d.opening.head.type_name (codes "comment") (sym (ap (λ (w : Head). w.type_name) h.head)) iu.type_name (preamble_no_comment d.opening.head.type_name it.type_name))
same_kind limit (PreambleTree d) (DefinitionTree e) x y it iu h = absurd (clash _ d.opening.head.type_name (codes "string") (sym (ap (λ (w : Head). w.type_name) h.head)) iu.type_name (preamble_no_string d.opening.head.type_name it.type_name))
same_kind limit (PreambleTree d) (PreambleTree e) x y it iu h = let w = preamble_unique limit d e x y it iu h in ((λ i. PreambleTree (w.0 i)), w.1)
same_kind limit (PreambleTree d) (EntryTree e) x y it iu h = absurd (clash _ e.opening.head.type_name (codes "preamble") (ap (λ (w : Head). w.type_name) h.head) it.type_name (entry_no e.opening.head.type_name iu.type_name).2)
same_kind limit (EntryTree d) (CommentTree g) x y it iu h = absurd (clash _ d.opening.head.type_name (codes "comment") (sym (ap (λ (w : Head). w.type_name) h.head)) iu.type_name (entry_no d.opening.head.type_name it.type_name).0)
same_kind limit (EntryTree d) (DefinitionTree e) x y it iu h = absurd (clash _ d.opening.head.type_name (codes "string") (sym (ap (λ (w : Head). w.type_name) h.head)) iu.type_name (entry_no d.opening.head.type_name it.type_name).1)
same_kind limit (EntryTree d) (PreambleTree e) x y it iu h = absurd (clash _ d.opening.head.type_name (codes "preamble") (sym (ap (λ (w : Head). w.type_name) h.head)) iu.type_name (entry_no d.opening.head.type_name it.type_name).2)
same_kind limit (EntryTree d) (EntryTree e) x y it iu h = let w = entry_unique limit d e x y it iu h in ((λ i. EntryTree (w.0 i)), w.1)

pub tree_unique : (limit : ℕ) (t u : Tree) (x y : Text) → IsTree limit t → IsTree limit u → EndsName t x → EndsName u y → tree_bytes t ++ x ≡ tree_bytes u ++ y → (t ≡ u) × (x ≡ y)
tree_unique limit t u x y it iu et eu e = same_kind limit t u x y it iu (head_unique t u x y (headed limit t x it et) (headed limit u y iu eu) e)

-- ---- items

texts_unique : (a b r s : Text) → length a ≡ length b → a ++ r ≡ b ++ s → (a ≡ b) × (r ≡ s)
texts_unique a b r s len e = (
  sym (take_at a r (length b) len) ∙ ap (take (length b)) e ∙ take_at b s (length b) refl,
  sym (drop_at a r (length b) len) ∙ ap (drop (length b)) e ∙ drop_at b s (length b) refl,
)

items_unique : (limit : ℕ) (is js : List Item) → All (IsItem limit) is → All (IsItem limit) js → flat_map item_bytes is ≡ flat_map item_bytes js → is ≡ js
items_unique limit [] [] ai aj e = refl
items_unique limit [] (j ∷ js) ai aj e = let some = some_bytes j.tree in absurd (omega (arith, ap (length {A = ℕ}) e, length-append (item_bytes j) (flat_map item_bytes js), length-append (tree_bytes j.tree) j.trail))
items_unique limit (i ∷ is) [] ai aj e = let some = some_bytes i.tree in absurd (omega (arith, ap (length {A = ℕ}) e, length-append (item_bytes i) (flat_map item_bytes is), length-append (tree_bytes i.tree) i.trail))
items_unique limit (i ∷ is) (j ∷ js) ai aj e =
    let oi = All-head (IsItem limit) i is ai in
    let oj = All-head (IsItem limit) j js aj in
    let ri : Text = flat_map item_bytes is in
    let rj : Text = flat_map item_bytes js in
    let ni = items_next limit is (All-tail (IsItem limit) i is ai) in
    let nj = items_next limit js (All-tail (IsItem limit) j js aj) in
    let one = tree_unique limit i.tree j.tree (i.trail ++ ri) (j.trail ++ rj) oi.tree oj.tree (ends_more i.tree i.trail ri oi.trail.ends_name ni) (ends_more j.tree j.trail rj oj.trail.ends_name nj) (sym (append_assoc (tree_bytes i.tree) i.trail ri) ∙ e ∙ append_assoc (tree_bytes j.tree) j.trail rj) in
    let len : length i.trail ≡ length j.trail = sym (next_again i.trail ri oi.trail.clean ni) ∙ ap next_command one.1 ∙ next_again j.trail rj oj.trail.clean nj in
    let two = texts_unique i.trail j.trail ri rj len one.1 in
    let later = items_unique limit is js (All-tail (IsItem limit) i is ai) (All-tail (IsItem limit) j js aj) two.1 in
    λ k. record { tree = one.0 k; trail = two.0 k } ∷ later k

-- no text has two readings
pub one_reading : (limit : ℕ) (b : Text) (db dc : Reading) → ReadsWithin limit b db → ReadsWithin limit b dc → db ≡ dc
one_reading limit b db dc rb rc =
    let nb = items_next limit db.items rb.items in
    let nc = items_next limit dc.items rc.items in
    let whole : bytes_of db ≡ bytes_of dc = rb.bytes ∙ sym rc.bytes in
    let len : length db.front ≡ length dc.front = sym (next_again db.front (flat_map item_bytes db.items) rb.front nb) ∙ ap next_command whole ∙ next_again dc.front (flat_map item_bytes dc.items) rc.front nc in
    let one = texts_unique db.front dc.front (flat_map item_bytes db.items) (flat_map item_bytes dc.items) len whole in
    let items = items_unique limit db.items dc.items rb.items rc.items one.1 in
    λ k. record { front = one.0 k; items = items k }
