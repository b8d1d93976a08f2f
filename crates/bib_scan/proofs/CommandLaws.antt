-- Commands: what is read is a tree.
use Rattle.bib_scan.proofs.Words.{◌≡◌, ℕ, ◌<◌, Bool, true, false, ◌||◌, eqb, [], ◌∷◌, ◌++◌, length, refl, sym, ap, subst, ◌∙◌, arith, append_assoc, inl, inr, Ok, eqb-true, both_ways, not-true, not_from_false, and_parts, or_cases, or_from, length-append, codes, take_while, flat_map, Text, is_space}
use Rattle.bib_scan.proofs.Words.{is_type_byte, same, does_not_begin_with, after_run, begins_command, opens_body, Entry, Definition, Preamble, Head, Opening, Delimiter, Tree, CommentTree, DefinitionTree, PreambleTree, EntryTree, value_bytes, assignment_bytes, row_bytes, last_comma_bytes, open_byte}
use Rattle.bib_scan.proofs.Words.{close_byte, head_bytes, opening_bytes, after_key_bytes, tree_bytes, goes_on_key, is_no_keyword, IsSpace, IsHead, IsOpening, IsDefinition, IsPreamble, IsEntry, IsTree, read_value, read_row, read_entry, read_definition, read_preamble, delimiter_of, read_body}
use Rattle.bib_scan.proofs.Words.{read_command}
use Rattle.bib_spec.specs.Tree.{is_comment}
use Rattle.bib_scan.proofs.RunLaws.{bind_ok, chosen, ok_same, run_split, run_passes, run_stops, limited_ok}
use Rattle.bib_scan.proofs.PartLaws.{type_name_from}
use Rattle.bib_scan.proofs.ValueLaws.{Stands, space_split, value_ok}
use Rattle.bib_scan.proofs.RowLaws.{row_inside, assignment_shape, row_ok, rows_ok, closing_ok}

-- a head, and the white space after it
pub record Typed : Type 0 where
  pub head : Head
  pub space_before_delimiter : Text

pub record IsTyped (y : Typed) : Type 0 where
  pub head : IsHead y.head
  pub space_before_delimiter : IsSpace y.space_before_delimiter

abbrev pub opening : Typed → Delimiter → Text → Opening
opening y d after = record {
  head = y.head;
  space_before_delimiter = y.space_before_delimiter;
  delimiter = d;
  space_after = after;
}

pub is_opening : (y : Typed) (d : Delimiter) (after : Text) → IsTyped y → IsSpace after → IsOpening (opening y d after)
is_opening y d after ok space = record {
  head = ok.head;
  space_before_delimiter = ok.space_before_delimiter;
  space_after = space;
}

-- the bytes up to the delimiter
abbrev pub typed_bytes : Typed → Text
typed_bytes y = head_bytes y.head ++ y.space_before_delimiter

-- after a comment the text does not continue its type name
abbrev pub EndsName : Tree → Text → Type 0
EndsName tree rest = is_comment tree ≡ true → does_not_begin_with is_type_byte rest ≡ true

pub is_no_comment : (P : Type 0) → false ≡ true → P
is_no_comment P e = cc

-- `whole` is the bytes of a tree, and then `rest`
abbrev pub IsTreeOf : ℕ → Text → Text → Type 0
IsTreeOf limit whole rest = (tree : Tree) × IsTree limit tree × (whole ≡ tree_bytes tree ++ rest) × EndsName tree rest

opening_shape : (y : Typed) (d : Delimiter) (after u : Text) → typed_bytes y ++ (open_byte d ∷ (after ++ u)) ≡ opening_bytes (opening y d after) ++ u
opening_shape y d after u = sym (append_assoc (typed_bytes y) (open_byte d ∷ after) u)

definition_ok : (limit : ℕ) (y : Typed) (d : Delimiter) (t rest : Text) → IsTyped y → same y.head.type_name (codes "string") ≡ true → read_definition limit (close_byte d) t ≡ Ok rest → IsTreeOf limit (typed_bytes y ++ (open_byte d ∷ t)) rest
definition_ok limit y d t rest ok named is =
    let x = bind_ok (read_row limit t) _ rest is in
    let r = row_ok limit t x.0 x.1 in
    let end = closing_ok _ _ _ x.2 in
    let a = r.0.assignment in
    let o = opening y d r.0.space_before_name in
    let tree : Definition = record { opening = o; assignment = a } in
    let good : IsDefinition limit tree = record {
      opening = is_opening y d r.0.space_before_name ok r.1.space_before_name;
      type_name = named;
      assignment = r.1.assignment;
    } in
    let inside : t ≡ r.0.space_before_name ++ (assignment_bytes a ++ (close_byte d ∷ rest)) =
    r.3 ∙ ap (λ (u : Text). row_inside r.0 u) end ∙ ap (λ (u : Text). r.0.space_before_name ++ u) (sym (assignment_shape a (close_byte d ∷ rest))) in
    (DefinitionTree tree, good, ap (λ (u : Text). typed_bytes y ++ (open_byte d ∷ u)) inside ∙ opening_shape y d r.0.space_before_name _ ∙ sym (regroup (opening_bytes o) (assignment_bytes a) (close_byte d) rest), is_no_comment _)
  where
    regroup : (o a : Text) (c : ℕ) (u : Text) → (o ++ a ++ c ∷ []) ++ u ≡ o ++ (a ++ (c ∷ u))
    regroup o a c u = append_assoc (o ++ a) (c ∷ []) u ∙ append_assoc o a _

four_regroup : (o w b : Text) (c : ℕ) (u : Text) → (o ++ w ++ b ++ c ∷ []) ++ u ≡ o ++ (w ++ (b ++ (c ∷ u)))
four_regroup o w b c u = append_assoc (o ++ w ++ b) (c ∷ []) u ∙ append_assoc (o ++ w) b _ ∙ append_assoc o w _

preamble_ok : (limit : ℕ) (y : Typed) (d : Delimiter) (t rest : Text) → IsTyped y → same y.head.type_name (codes "preamble") ≡ true → read_preamble limit (close_byte d) t ≡ Ok rest → IsTreeOf limit (typed_bytes y ++ (open_byte d ∷ t)) rest
preamble_ok limit y d t rest ok named is =
    let x = bind_ok (read_value limit (after_run is_space t)) _ rest is in
    let v = value_ok limit _ _ x.1 in
    let end = closing_ok _ _ _ x.2 in
    let before = take_while is_space t in
    let after = take_while is_space x.0.1 in
    let o = opening y d before in
    let tree : Preamble = record { opening = o; value = v.0; space_after = after } in
    let good : IsPreamble limit tree = record {
      opening = is_opening y d before ok (run_passes is_space t);
      type_name = named;
      value = v.1;
      space_after = run_passes is_space x.0.1;
    } in
    let last : x.0.1 ≡ after ++ (close_byte d ∷ rest) = space_split x.0.1 ∙ ap (λ (u : Text). after ++ u) end in
    let inside : t ≡ before ++ (value_bytes v.0 ++ (after ++ (close_byte d ∷ rest))) =
    space_split t ∙ ap (λ (u : Text). before ++ u) (v.3 ∙ ap (λ (u : Text). u ++ x.0.1) v.2 ∙ ap (λ (u : Text). value_bytes v.0 ++ u) last) in
    (PreambleTree tree, good, ap (λ (u : Text). typed_bytes y ++ (open_byte d ∷ u)) inside ∙ opening_shape y d before _ ∙ sym (four_regroup (opening_bytes o) (value_bytes v.0) after (close_byte d) rest), is_no_comment _)

-- a front that is not empty stops a run if the whole text does
pub stops_front : (test : ℕ → Bool) (u r : Text) → 0 < length u → does_not_begin_with test (u ++ r) ≡ true → does_not_begin_with test u ≡ true
stops_front test [] r some is = absurd (omega arith)
stops_front test (b ∷ u) r some is = is

no_space : (t : Text) → Stands t → take_while is_space t ≡ []
no_space [] is = refl
no_space (b ∷ t) is = let fails = not-true (is_space b) is in rw fails refl

entry_ok : (limit : ℕ) (y : Typed) (d : Delimiter) (t rest : Text) → IsTyped y → is_no_keyword y.head.type_name ≡ true → read_entry limit d t ≡ Ok rest → IsTreeOf limit (typed_bytes y ++ (open_byte d ∷ t)) rest
unfolding read_entry
entry_ok limit y d t rest ok named is =
    let x = bind_ok _ _ rest is in
    let k = limited_ok limit (goes_on_key d) _ x.0 x.1 in
    let rs = rows_ok limit _ _ _ _ x.2 in
    let before = take_while is_space t in
    let gap = take_while is_space x.0.1 in
    let o = opening y d before in
    let e : Entry = record { opening = o; key = x.0.0; space_after_key = gap; rows = rs.0; last_comma = rs.1 } in
    let last : x.0.1 ≡ after_key_bytes e ++ rest = space_split x.0.1 ∙ ap (λ (u : Text). gap ++ u) rs.4 ∙ sym (four_regroup gap (flat_map row_bytes rs.0) (last_comma_bytes rs.1) (close_byte d) rest) in
    let long : 0 < length (after_key_bytes e) = omega (arith, length-append (gap ++ flat_map row_bytes rs.0 ++ last_comma_bytes rs.1) (close_byte d ∷ [])) in
    let good : IsEntry limit e = record {
      opening = is_opening y d before ok (run_passes is_space t);
      type_name = named;
      key = k.pass;
      key_len = k.len;
      key_ends = stops_front (goes_on_key d) _ rest long (subst (λ (u : Text). does_not_begin_with (goes_on_key d) u ≡ true) last k.ends);
      space_after_key = run_passes is_space x.0.1;
      empty_key = λ none. no_space x.0.1 (subst Stands (k.split ∙ ap (λ (u : Text). u ++ x.0.1) none) (run_stops is_space t));
      rows = rs.2;
      last_comma = rs.3;
    } in
    let inside : t ≡ before ++ (x.0.0 ++ (after_key_bytes e ++ rest)) = space_split t ∙ ap (λ (u : Text). before ++ u) (k.split ∙ ap (λ (u : Text). x.0.0 ++ u) last) in
    (EntryTree e, good, ap (λ (u : Text). typed_bytes y ++ (open_byte d ∷ u)) inside ∙ opening_shape y d before _ ∙ sym (append_assoc (opening_bytes o ++ x.0.0) (after_key_bytes e) rest ∙ append_assoc (opening_bytes o) x.0.0 _), is_no_comment _)

pub open_is : (b : ℕ) (t : Text) → opens_body (b ∷ t) ≡ true → open_byte (delimiter_of b) ≡ b
open_is b t is =
    elim (or_cases (eqb b 123) (eqb b 40) is) [
      | inl brace ↦ rw brace (sym (eqb-true b 123 brace))
      | inr paren ↦ let e = eqb-true b 40 paren in subst (λ (n : ℕ). open_byte (delimiter_of n) ≡ n) (sym e) refl
    ]

body_ok : (limit : ℕ) (y : Typed) (t rest : Text) → IsTyped y → opens_body t ≡ true → same y.head.type_name (codes "comment") ≡ false → read_body limit y.head.type_name t ≡ Ok rest → IsTreeOf limit (typed_bytes y ++ t) rest
unfolding read_body
body_ok limit y [] rest ok open_it no_comment is = cc
body_ok limit y (b ∷ t) rest ok open_it no_comment is =
    let same_open = open_is b t open_it in
    let d = delimiter_of b in
    subst (λ (n : ℕ). IsTreeOf limit (typed_bytes y ++ (n ∷ t)) rest) same_open (
    elim (chosen (same y.head.type_name (codes "string")) _ _ _ is) [
      | inl string ↦ definition_ok limit y d t rest ok string.0 string.1
      | inr other ↦ elim (chosen (same y.head.type_name (codes "preamble")) _ _ _ other.1) [
        | inl preface ↦ preamble_ok limit y d t rest ok preface.0 preface.1
        | inr plain ↦ entry_ok limit y d t rest ok (not_from_false _ (or_from _ _ (or_from _ _ no_comment other.0) plain.0)) plain.1
      ]
    ]
    )

pub or-second : {b c : Bool} → b ≡ false → (b || c) ≡ true → c ≡ true
or-second {b} {c} fails either = elim (or_cases b c either) [ inl e ↦ absurd (both_ways b fails e) | inr e ↦ e ]

pub command_ok : (limit : ℕ) (t rest : Text) → begins_command t ≡ true → read_command limit t ≡ Ok rest → IsTreeOf limit t rest
unfolding begins_command read_command
command_ok limit [] rest here is = cc
command_ok limit (b ∷ t) rest here is =
    let parts = and_parts _ _ here in
    let signs = and_parts _ _ parts.0 in
    let at : b ≡ 64 = eqb-true b 64 signs.0 in
    let named = after_run is_space t in
    let after = after_run is_type_byte named in
    let head : Head = record { space_before_type = take_while is_space t; type_name = take_while is_type_byte named } in
    let good : IsHead head = record {
      space_before_type = run_passes is_space t;
      type_name = type_name_from head.type_name signs.1 (run_passes is_type_byte named);
    } in
    let start : b ∷ t ≡ head_bytes head ++ after =
    ap (λ (c : ℕ). c ∷ t) at ∙ ap (λ (u : Text). 64 ∷ u) (space_split t ∙ ap (λ (u : Text). head.space_before_type ++ u) (sym (run_split is_type_byte named)))
    ∙ sym (append_assoc (64 ∷ head.space_before_type) head.type_name after) in
    elim (chosen (same head.type_name (codes "comment")) _ _ _ is) [
      | inl comment ↦
          let same_rest = ok_same after rest _ refl comment.1 in (
            CommentTree head,
            record { head = good; type_name = comment.0 },
            start ∙ ap (λ (u : Text). head_bytes head ++ u) same_rest,
            λ e. subst (λ (u : Text). does_not_begin_with is_type_byte u ≡ true) same_rest (run_stops is_type_byte named),
          )
      | inr other ↦
          let y : Typed = record { head = head; space_before_delimiter = take_while is_space after } in
          let ok : IsTyped y = record { head = good; space_before_delimiter = run_passes is_space after } in
          let shape : b ∷ t ≡ typed_bytes y ++ after_run is_space after =
          start ∙ ap (λ (u : Text). head_bytes head ++ u) (space_split after) ∙ sym (append_assoc (head_bytes head) y.space_before_delimiter _) in
          subst (λ (u : Text). IsTreeOf limit u rest) (sym shape) (body_ok limit y _ rest ok (or-second other.0 parts.1) other.0 other.1)
    ]
