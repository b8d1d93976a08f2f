-- Bytes that the grammar gives are read again: commands.
use Rattle.bib_scan.proofs.Words.{◌≡◌, ℕ, ◌+◌, ◌<◌, ◌≤◌, Bool, true, false, List, [], ◌∷◌, ◌++◌, length, refl, sym, ap, subst, ◌∙◌, arith, append_assoc, Result, Ok, not_from_false, not-true, cond-true, cond-false, and_left, or_parts, false_from_ne_true, length-append, map, All-head, codes}
use Rattle.bib_scan.proofs.Words.{take_while, AllPass, flat_map, name_limit, Text, is_space, is_name_byte, is_type_byte, same, does_not_begin_with, after_run, begins_command, opens_body, Row, Entry, Definition, Preamble, Head, Opening, Delimiter, Brace, Paren, Tree, CommentTree, DefinitionTree}
use Rattle.bib_scan.proofs.Words.{PreambleTree, EntryTree, value_bytes, assignment_bytes, row_bytes, last_comma_bytes, open_byte, close_byte, head_bytes, opening_bytes, after_key_bytes, tree_bytes, goes_on_key, is_no_keyword, IsSpace, IsRow, IsOpening, IsDefinition, IsPreamble, IsEntry, IsTree}
use Rattle.bib_scan.proofs.Words.{Read, Halt, read_value, read_row, read_close, read_all_rows, read_entry, read_definition, read_preamble, delimiter_of, read_body, read_command, read_run, ◌>>=◌}
use Rattle.std.proofs.lemmas.Slice.Eq.{bytes_eq-Decides}
use Rattle.std.specs.Char.{to_ascii_lowercase}
use Rattle.bib_spec.specs.Tree.{definition_bytes, preamble_bytes, entry_bytes}
use Rattle.bib_scan.proofs.RunLaws.{run_front, run_rest, limited_again}
use Rattle.bib_scan.proofs.ValueLaws.{Stands, skip_space}
use Rattle.bib_scan.proofs.PartLaws.{type_name_parts}
use Rattle.bib_scan.proofs.RowLaws.{assignment_inside, assignment_shape, row_inside}
use Rattle.bib_scan.proofs.CommandLaws.{EndsName}
use Rattle.bib_scan.proofs.AgainLaws.{space_breaks, name_stands, value_stands, value_again, after_space, no_link, row_again, Close, closed_here, rows_inside, rows_begin, rows_again}

pub closes : (d : Delimiter) → Close (close_byte d)
unfolding is_space is_name_byte
closes Brace = record { ends = record { breaks = record { name = refl; digit = refl }; no_space = refl; no_hash = refl }; no_comma = refl }
closes Paren = record { ends = record { breaks = record { name = refl; digit = refl }; no_space = refl; no_hash = refl }; no_comma = refl }

pub delimiter_again : (d : Delimiter) → delimiter_of (open_byte d) ≡ d
delimiter_again Brace = refl
delimiter_again Paren = refl

pub closing_again : (c : ℕ) (x : Text) → read_close c (c ∷ x) ≡ Ok x
closing_again c x = rw (closed_here c x) refl

-- ---- the three commands with delimiters, given what follows the opening one

abbrev pub definition_row : Definition → Row
definition_row d = record { space_before_name = d.opening.space_after; assignment = d.assignment }

pub is_definition_row : (limit : ℕ) (d : Definition) → IsDefinition limit d → IsRow limit (definition_row d)
is_definition_row limit d is = record { space_before_name = is.opening.space_after; assignment = is.assignment }

definition_again : (limit : ℕ) (d : Definition) (x : Text) → IsDefinition limit d → read_definition limit (close_byte d.opening.delimiter) (row_inside (definition_row d) (close_byte d.opening.delimiter ∷ x)) ≡ Ok x
definition_again limit d x is =
    let c = close_byte d.opening.delimiter in
    let read : read_row limit (row_inside (definition_row d) (c ∷ x)) ≡ Ok (c ∷ x) = row_again limit (definition_row d) c x (is_definition_row limit d is) (closes d.opening.delimiter).ends in
    ap (λ (m : Result Text Halt). m >>= read_close c) read ∙ closing_again c x

preamble_again : (limit : ℕ) (p : Preamble) (x : Text) → IsPreamble limit p → read_preamble limit (close_byte p.opening.delimiter) (p.opening.space_after ++ (value_bytes p.value ++ (p.space_after ++ close_byte p.opening.delimiter ∷ x))) ≡ Ok x
preamble_again limit p x is =
    let c = close_byte p.opening.delimiter in
    let ends = (closes p.opening.delimiter).ends in
    let last : Text = p.space_after ++ c ∷ x in
    let e1 : after_run is_space (p.opening.space_after ++ (value_bytes p.value ++ last)) ≡ value_bytes p.value ++ last = skip_space p.opening.space_after (value_bytes p.value ++ last) is.opening.space_after (value_stands limit p.value last is.value) in
    let e2 : read_value limit (value_bytes p.value ++ last) ≡ Ok (value_bytes p.value, last) = value_again limit p.value last is.value (after_space p.space_after c x is.space_after ends.breaks) (no_link p.space_after c x is.space_after ends) in
    let e3 : after_run is_space last ≡ c ∷ x = skip_space p.space_after (c ∷ x) is.space_after (not_from_false _ ends.no_space) in
    ap (λ (u : Text). read_value limit u >>= λ v. read_close c (after_run is_space v.1)) e1
    ∙ ap (λ (m : Read Text). m >>= λ v. read_close c (after_run is_space v.1)) e2 ∙ ap (read_close c) e3 ∙ closing_again c x

-- no byte of a key is white space
pub key_no_space : (d : Delimiter) (b : ℕ) → goes_on_key d b ≡ true → is_space b ≡ false
key_no_space Brace b is = (or_parts (is_space b) _ (or_parts _ _ (not-true _ is)).0).0
key_no_space Paren b is = (or_parts (is_space b) _ (not-true _ is)).0

pub rows_len : (rs : List Row) → length rs ≤ length (flat_map row_bytes rs)
rows_len [] = omega arith
rows_len (r ∷ rs) = omega (arith, rows_len rs, length-append (row_bytes r) (flat_map row_bytes rs))

pub stops_more : (test : ℕ → Bool) (u r : Text) → 0 < length u → does_not_begin_with test u ≡ true → does_not_begin_with test (u ++ r) ≡ true
stops_more test [] r some is = absurd (omega arith)
stops_more test (b ∷ u) r some is = is

pub key_stands : (d : Delimiter) (key r : Text) → AllPass (goes_on_key d) key → (key ≡ [] → Stands r) → Stands (key ++ r)
key_stands d [] r all rest = rest refl
key_stands d (b ∷ key) r all rest = not_from_false _ (key_no_space d b (All-head (λ (y : ℕ). goes_on_key d y ≡ true) b key all))

-- an entry's bytes, one after another, with this text after them
pub record EntryIn (e : Entry) (x : Text) : Type 0 where
  pub stands : Stands (e.key ++ (after_key_bytes e ++ x))
  pub key_ends : does_not_begin_with (goes_on_key e.opening.delimiter) (after_key_bytes e ++ x) ≡ true
  pub rows : after_run is_space (after_key_bytes e ++ x) ≡ rows_inside (close_byte e.opening.delimiter) e.rows e.last_comma x
  pub room : length e.rows ≤ length (rows_inside (close_byte e.opening.delimiter) e.rows e.last_comma x)
  pub shape : after_key_bytes e ++ x ≡ e.space_after_key ++ rows_inside (close_byte e.opening.delimiter) e.rows e.last_comma x

pub entry_in : (limit : ℕ) (e : Entry) (x : Text) → IsEntry limit e → EntryIn e x
entry_in limit e x is =
    let d = e.opening.delimiter in
    let c = close_byte d in
    let inside : Text = rows_inside c e.rows e.last_comma x in
    let begin = rows_begin c e.rows e.last_comma x (closes d) in
    let inside_stands : Stands inside = subst Stands (sym begin.3) (not_from_false _ begin.2.no_space) in
    let shape : after_key_bytes e ++ x ≡ e.space_after_key ++ inside =
    append_assoc (e.space_after_key ++ flat_map row_bytes e.rows ++ last_comma_bytes e.last_comma) (c ∷ []) x ∙ append_assoc (e.space_after_key ++ flat_map row_bytes e.rows) (last_comma_bytes e.last_comma) (c ∷ x) ∙ append_assoc e.space_after_key (flat_map row_bytes e.rows) (last_comma_bytes e.last_comma ++ c ∷ x) in
    let long : 0 < length (after_key_bytes e) = omega (arith, length-append (e.space_after_key ++ flat_map row_bytes e.rows ++ last_comma_bytes e.last_comma) (c ∷ [])) in
    record {
      stands = key_stands d e.key (after_key_bytes e ++ x) is.key (λ none. subst Stands (sym (shape ∙ ap (λ (u : Text). u ++ inside) (is.empty_key none))) inside_stands);
      key_ends = stops_more (goes_on_key d) (after_key_bytes e) x long is.key_ends;
      rows = ap (after_run is_space) shape ∙ skip_space e.space_after_key inside is.space_after_key inside_stands;
      room = omega (arith, rows_len e.rows, length-append (flat_map row_bytes e.rows) (last_comma_bytes e.last_comma ++ c ∷ x));
      shape = shape;
    }

entry_again : (limit : ℕ) (e : Entry) (x : Text) → IsEntry limit e → read_entry limit e.opening.delimiter (e.opening.space_after ++ (e.key ++ (after_key_bytes e ++ x))) ≡ Ok x
unfolding read_entry
entry_again limit e x is =
    let d = e.opening.delimiter in
    let c = close_byte d in
    let inside : Text = rows_inside c e.rows e.last_comma x in
    let at = entry_in limit e x is in
    let after : Text = after_key_bytes e ++ x in
    let e1 : after_run is_space (e.opening.space_after ++ (e.key ++ after)) ≡ e.key ++ after = skip_space e.opening.space_after (e.key ++ after) is.opening.space_after at.stands in
    let e2 : read_run limit (goes_on_key d) (e.key ++ after) ≡ Ok (e.key, after) = limited_again limit (goes_on_key d) e.key after is.key is.key_len at.key_ends in
    let room : length e.rows < length inside + 1 = omega (arith, at.room) in
    ap (λ (u : Text). read_run limit (goes_on_key d) u >>= λ key. read_all_rows limit c (after_run is_space key.1)) e1
    ∙ ap (λ (m : Read Text). m >>= λ key. read_all_rows limit c (after_run is_space key.1)) e2
    ∙ ap (read_all_rows limit c) at.rows ∙ rows_again limit e.rows (length inside + 1) c e.last_comma x is.rows is.last_comma (closes d) room

-- ---- openings

type_breaks : (b : ℕ) → is_name_byte b ≡ false → is_type_byte b ≡ false
type_breaks b is = and_left _ _ is

open_no_name : (d : Delimiter) → is_name_byte (open_byte d) ≡ false
unfolding is_name_byte
open_no_name Brace = refl
open_no_name Paren = refl

pub open_no_space : (d : Delimiter) → is_space (open_byte d) ≡ false
unfolding is_space
open_no_space Brace = refl
open_no_space Paren = refl

open_opens : (d : Delimiter) (x : Text) → opens_body (open_byte d ∷ x) ≡ true
open_opens Brace x = refl
open_opens Paren x = refl

pub type_ends : (s : Text) (d : Delimiter) (x : Text) → IsSpace s → does_not_begin_with is_type_byte (s ++ open_byte d ∷ x) ≡ true
type_ends [] d x space = not_from_false _ (type_breaks _ (open_no_name d))
type_ends (b ∷ s) d x space = not_from_false _ (type_breaks b (space_breaks b (All-head (λ (y : ℕ). is_space y ≡ true) b s space)).name)

-- a command with this opening
pub record Opened (limit : ℕ) (o : Opening) (t u : Text) (r : Result Text Halt) : Type 0 where
  pub whole : t ≡ 64 ∷ (o.head.space_before_type ++ (o.head.type_name ++ (o.space_before_delimiter ++ (open_byte o.delimiter ∷ u))))
  pub no_comment : same o.head.type_name (codes "comment") ≡ false
  pub read : read_body limit o.head.type_name (open_byte o.delimiter ∷ u) ≡ r

pub record Again (limit : ℕ) (t : Text) (r : Result Text Halt) : Type 0 where
  pub begins : begins_command t ≡ true
  pub command : read_command limit t ≡ r

pub opened_again : (limit : ℕ) (o : Opening) (t u : Text) (r : Result Text Halt) → IsOpening o → Opened limit o t u r → Again limit t r
unfolding begins_command read_command
opened_again limit o t u r is opened =
    let named_well = type_name_parts o.head.type_name is.head.type_name in
    let open_text : Text = open_byte o.delimiter ∷ u in
    let after : Text = o.space_before_delimiter ++ open_text in
    let named : Text = o.head.type_name ++ after in
    let e1 : after_run is_space (o.head.space_before_type ++ named) ≡ named = skip_space o.head.space_before_type named is.head.space_before_type (name_stands name_limit o.head.type_name after named_well.0) in
    let e2 : take_while is_type_byte named ≡ o.head.type_name = run_front is_type_byte o.head.type_name after named_well.1 (type_ends o.space_before_delimiter o.delimiter u is.space_before_delimiter) in
    let e3 : after_run is_type_byte named ≡ after = run_rest is_type_byte o.head.type_name after named_well.1 (type_ends o.space_before_delimiter o.delimiter u is.space_before_delimiter) in
    let e4 : after_run is_space after ≡ open_text = skip_space o.space_before_delimiter open_text is.space_before_delimiter (not_from_false _ (open_no_space o.delimiter)) in
    record {
      begins = ap begins_command opened.whole ∙ rw (e1, e2, e3, e4, named_well.0, opened.no_comment) (open_opens o.delimiter u);
      command = ap (read_command limit) opened.whole ∙ rw (e1, e2, e3, e4, opened.no_comment) opened.read;
    }

-- ---- trees

same_true : (a b : Text) → same a b ≡ true → map to_ascii_lowercase a ≡ map to_ascii_lowercase b
same_true a b is = (bytes_eq-Decides (map to_ascii_lowercase a) (map to_ascii_lowercase b)).0 is

-- a text that is one word, folded, is not another word
same_one : (a b c : Text) → same a b ≡ true → (map to_ascii_lowercase b ≡ map to_ascii_lowercase c → ⊥) → same a c ≡ false
same_one a b c is differ = false_from_ne_true _ (λ also. differ (sym (same_true a b is) ∙ same_true a c also))

pub string_no_comment : (t : Text) → same t (codes "string") ≡ true → same t (codes "comment") ≡ false
string_no_comment t is = same_one t (codes "string") (codes "comment") is (λ e. cc)

pub preamble_no_comment : (t : Text) → same t (codes "preamble") ≡ true → same t (codes "comment") ≡ false
preamble_no_comment t is = same_one t (codes "preamble") (codes "comment") is (λ e. cc)

pub preamble_no_string : (t : Text) → same t (codes "preamble") ≡ true → same t (codes "string") ≡ false
preamble_no_string t is = same_one t (codes "preamble") (codes "string") is (λ e. cc)

pub head_shape : (h : Head) (u : Text) → head_bytes h ++ u ≡ 64 ∷ (h.space_before_type ++ (h.type_name ++ u))
head_shape h u = append_assoc (64 ∷ h.space_before_type) h.type_name u

pub opening_shape : (o : Opening) (u : Text) → opening_bytes o ++ u ≡ 64 ∷ (o.head.space_before_type ++ (o.head.type_name ++ (o.space_before_delimiter ++ (open_byte o.delimiter ∷ (o.space_after ++ u)))))
opening_shape o u =
    append_assoc (head_bytes o.head ++ o.space_before_delimiter) (open_byte o.delimiter ∷ o.space_after) u
    ∙ append_assoc (head_bytes o.head) o.space_before_delimiter _ ∙ head_shape o.head _

pub definition_shape : (d : Definition) (x : Text) → definition_bytes d ++ x ≡ opening_bytes d.opening ++ assignment_inside d.assignment (close_byte d.opening.delimiter ∷ x)
definition_shape d x =
    append_assoc (opening_bytes d.opening ++ assignment_bytes d.assignment) (close_byte d.opening.delimiter ∷ []) x
    ∙ append_assoc (opening_bytes d.opening) (assignment_bytes d.assignment) _
    ∙ ap (λ (u : Text). opening_bytes d.opening ++ u) (assignment_shape d.assignment (close_byte d.opening.delimiter ∷ x))

pub preamble_shape : (p : Preamble) (x : Text) → preamble_bytes p ++ x ≡ opening_bytes p.opening ++ (value_bytes p.value ++ (p.space_after ++ close_byte p.opening.delimiter ∷ x))
preamble_shape p x = append_assoc (opening_bytes p.opening ++ value_bytes p.value ++ p.space_after) (close_byte p.opening.delimiter ∷ []) x ∙ append_assoc (opening_bytes p.opening ++ value_bytes p.value) p.space_after _ ∙ append_assoc (opening_bytes p.opening) (value_bytes p.value) _

pub entry_shape : (e : Entry) (x : Text) → entry_bytes e ++ x ≡ opening_bytes e.opening ++ (e.key ++ (after_key_bytes e ++ x))
entry_shape e x = append_assoc (opening_bytes e.opening ++ e.key) (after_key_bytes e) x ∙ append_assoc (opening_bytes e.opening) e.key _

pub string_body : (limit : ℕ) (t u : Text) (r : Result Text Halt) (d : Delimiter) → same t (codes "string") ≡ true → read_definition limit (close_byte d) u ≡ r → read_body limit t (open_byte d ∷ u) ≡ r
unfolding read_body
string_body limit t u r d named read = cond-true (same t (codes "string")) _ _ named ∙ ap (λ (e : Delimiter). read_definition limit (close_byte e) u) (delimiter_again d) ∙ read

pub preamble_body : (limit : ℕ) (t u : Text) (r : Result Text Halt) (d : Delimiter) → same t (codes "preamble") ≡ true → read_preamble limit (close_byte d) u ≡ r → read_body limit t (open_byte d ∷ u) ≡ r
unfolding read_body
preamble_body limit t u r d named read =
    cond-false (same t (codes "string")) _ _ (preamble_no_string t named) ∙ cond-true (same t (codes "preamble")) _ _ named
    ∙ ap (λ (e : Delimiter). read_preamble limit (close_byte e) u) (delimiter_again d) ∙ read

pub entry_body : (limit : ℕ) (t u : Text) (r : Result Text Halt) (d : Delimiter) → is_no_keyword t ≡ true → read_entry limit d u ≡ r → read_body limit t (open_byte d ∷ u) ≡ r
unfolding read_body
entry_body limit t u r d named read =
    let none = or_parts _ _ (not-true _ named) in
    let first = or_parts _ _ none.0 in
    cond-false (same t (codes "string")) _ _ first.1 ∙ cond-false (same t (codes "preamble")) _ _ none.1
    ∙ ap (λ (e : Delimiter). read_entry limit e u) (delimiter_again d) ∙ read

pub tree_again : (limit : ℕ) (tree : Tree) (x : Text) → IsTree limit tree → EndsName tree x → Again limit (tree_bytes tree ++ x) (Ok x)
unfolding begins_command read_command
tree_again limit (CommentTree h) x is ends =
    let named = type_name_parts h.type_name is.head.type_name in
    let space = is.head.space_before_type in
    let e1 : after_run is_space (h.space_before_type ++ (h.type_name ++ x)) ≡ h.type_name ++ x = skip_space h.space_before_type (h.type_name ++ x) space (name_stands name_limit h.type_name x named.0) in
    let e2 : take_while is_type_byte (h.type_name ++ x) ≡ h.type_name = run_front is_type_byte h.type_name x named.1 (ends refl) in
    let e3 : after_run is_type_byte (h.type_name ++ x) ≡ x = run_rest is_type_byte h.type_name x named.1 (ends refl) in
    record {
      begins = ap begins_command (head_shape h x) ∙ rw (e1, e2, e3, named.0, is.type_name) refl;
      command = ap (read_command limit) (head_shape h x) ∙ rw (e1, e2, e3, is.type_name) refl;
    }
tree_again limit (DefinitionTree d) x is ends =
    opened_again limit d.opening _ _ (Ok x) is.opening (record {
      whole = definition_shape d x ∙ opening_shape d.opening _;
      no_comment = string_no_comment d.opening.head.type_name is.type_name;
      read = string_body limit _ _ (Ok x) d.opening.delimiter is.type_name (definition_again limit d x is);
    })
tree_again limit (PreambleTree p) x is ends =
    opened_again limit p.opening _ _ (Ok x) is.opening (record {
      whole = preamble_shape p x ∙ opening_shape p.opening _;
      no_comment = preamble_no_comment p.opening.head.type_name is.type_name;
      read = preamble_body limit _ _ (Ok x) p.opening.delimiter is.type_name (preamble_again limit p x is);
    })
tree_again limit (EntryTree e) x is ends =
    opened_again limit e.opening _ _ (Ok x) is.opening (record {
      whole = entry_shape e x ∙ opening_shape e.opening _;
      no_comment = (or_parts _ _ (or_parts _ _ (not-true _ is.type_name)).0).0;
      read = entry_body limit _ _ (Ok x) e.opening.delimiter is.type_name (entry_again limit e x is);
    })
