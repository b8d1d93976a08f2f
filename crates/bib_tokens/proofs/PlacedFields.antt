-- The parts of an item's fields with their places.
use Rattle.bib_tokens.proofs.Words.{◌≡◌, ℕ, suc, ◌+◌, ◌<◌, nat_lt, Bool, true, ◌||◌, List, [], ◌∷◌, ◌++◌, length, map, ⊎_elim, refl, sym, ◌∙◌, ap, ap₂, subst, arith, append_assoc, append-nil, All, flat_map, list_any, or-false, cases_Bool, ltb-false, All-head, All-tail, name_limit, Text, Part, Link}
use Rattle.bib_tokens.proofs.Words.{Value, Row, Tree, CommentTree, DefinitionTree, PreambleTree, EntryTree, IsTree, IsRow, link_bytes, part_bytes, value_bytes, row_bytes, opening_bytes, tree_bytes, any_part, Field, fields_after, fields_of, links_placed, value_placed, tree_placed, tokens_of}
use Rattle.bib_tokens.proofs.Words.{token_at, ArePlacedFields, AreFieldTokens, list_any-append}
use Rattle.std.proofs.Common.{◌^◌, length-append}
use Rattle.bib_spec.specs.Bytes.{comma, equals_sign}
use Rattle.bib_spec.specs.Tree.{Assignment, IsValue, close_byte, last_comma_bytes}
use Rattle.bib_spec.specs.Texts.{parts_of, row_start, bytes_before_value}
use Rattle.edit_spec.proofs.TreeChunks.{row-parts}
use Rattle.bib_scan.specs.View.{field_after}
use Rattle.bib_tokens.specs.PlacedParts.{rows_placed}
use Rattle.bib_tokens.proofs.PlacedValues.{tokens-met, tokens-unmet}

value_after : (b c n x y : Text) → (((b ++ c) ++ n) ++ x) ++ y ≡ b ++ (c ++ (n ++ (x ++ y)))
value_after b c n x y = simp append_assoc

-- a value stands after the text before its row, and what the row begins with
pub value-place : (before : Text) (row : Row) → (let f : Field = field_after (length before) (before ++ comma ∷ row.space_before_name) row.assignment in f.value_at) ≡ length before + length (row_start row)
value-place before row =
    ap length (value_after before (comma ∷ row.space_before_name) row.assignment.name row.assignment.space_before_equals (equals_sign ∷ row.assignment.space_before_value))
    ∙ length-append before (row_start row)

module _ (test : Part → Bool) where
  pub tokens-append : (xs ys : List (ℕ × Part)) → tokens_of test (xs ++ ys) ≡ tokens_of test xs ++ tokens_of test ys
  tokens-append [] ys = refl
  tokens-append (x ∷ xs) ys = ⊎_elim
      (λ t. tokens-met test x (xs ++ ys) t ∙ ap (λ l. token_at x ∷ l) (tokens-append xs ys) ∙ sym (ap (λ l. l ++ tokens_of test ys) (tokens-met test x xs t)))
      (λ t. tokens-unmet test x (xs ++ ys) t ∙ tokens-append xs ys ∙ sym (ap (λ l. l ++ tokens_of test ys) (tokens-unmet test x xs t)))
      (cases_Bool (test x.1))

  -- ---- the fields of a tree

  row_tokens : (start : ℕ) (before : Text) (row : Row) (rows : List Row) →
      tokens_of test (rows_placed (start + length before) (row ∷ rows))
      ≡ tokens_of test (value_placed (start + (let f : Field = field_after (length before) (before ++ comma ∷ row.space_before_name) row.assignment in f.value_at)) row.assignment.value) ++ tokens_of test (rows_placed (start + length (before ++ row_bytes row)) rows)
  row_tokens start before row rows =
      let place = value-place before row in
      let next = length-append before (row_bytes row) in
      tokens-append (value_placed (start + length before + length (row_start row)) row.assignment.value) (rows_placed (start + length before + length (row_bytes row)) rows)
      ∙ ap₂ (λ (m n : ℕ). tokens_of test (value_placed m row.assignment.value) ++ tokens_of test (rows_placed n rows)) (omega (arith, place)) (omega (arith, next))

  rows-tokens : (start : ℕ) (before : Text) (rows : List Row) (old new : List (ℕ × Text)) → All (IsRow name_limit) rows → AreFieldTokens test start (fields_after before rows) old new →
      new ≡ old ++ tokens_of test (rows_placed (start + length before) rows)
  rows-tokens start before [] old new ok is = is ∙ sym (append-nil old)
  rows-tokens start before (row ∷ rows) old new ok is =
      let this : IsRow name_limit row = All-head (IsRow name_limit) row rows ok in
      let its = is.1 row.assignment.value this.assignment.value refl in
      let at : ℕ = start + (let f : Field = field_after (length before) (before ++ comma ∷ row.space_before_name) row.assignment in f.value_at) in
      rows-tokens start (before ++ row_bytes row) rows is.0 new (All-tail (IsRow name_limit) row rows ok) is.2
      ∙ ap (λ l. l ++ tokens_of test (rows_placed (start + length (before ++ row_bytes row)) rows)) its
      ∙ append_assoc old (tokens_of test (value_placed at row.assignment.value)) (tokens_of test (rows_placed (start + length (before ++ row_bytes row)) rows))
      ∙ ap (λ l. old ++ l) (sym (row_tokens start before row rows))

  one_field : (at : ℕ) (v : Value) (field : Field) (start : ℕ) (old new : List (ℕ × Text)) → IsValue name_limit v → value_bytes v ≡ field.value → start + field.value_at ≡ at → AreFieldTokens test start (field ∷ []) old new → new ≡ old ++ tokens_of test (value_placed at v)
  one_field at v field start old new ok same place is = is.2 ∙ is.1 v ok same ∙ ap (λ k. old ++ tokens_of test (value_placed k v)) place

  definition_place : (o n s x : Text) → length (((o ++ n) ++ s) ++ x) ≡ length (o ++ (n ++ (s ++ x)))
  definition_place o n s x = ap length (simp append_assoc)

  -- the tokens of an item's fields are those of its parts
  pub fields-tokens : (start : ℕ) (tree : Tree) (old new : List (ℕ × Text)) → IsTree name_limit tree → AreFieldTokens test start (fields_of tree) old new → new ≡ old ++ tokens_of test (tree_placed start tree)
  fields-tokens start (CommentTree h) old new ok is = is ∙ sym (append-nil old)
  fields-tokens start (DefinitionTree d) old new ok is =
      one_field (start + length (opening_bytes d.opening ++ bytes_before_value d.assignment)) d.assignment.value (field_after (length (opening_bytes d.opening)) (opening_bytes d.opening) d.assignment) start old new ok.assignment.value refl
      (ap (λ k. start + k) (definition_place (opening_bytes d.opening) d.assignment.name d.assignment.space_before_equals (equals_sign ∷ d.assignment.space_before_value))) is
  fields-tokens start (PreambleTree p) old new ok is = is.2 ∙ is.1 p.value ok.value refl
  fields-tokens start (EntryTree e) old new ok is =
      rows-tokens start (opening_bytes e.opening ++ e.key ++ e.space_after_key) e.rows old new ok.rows is
      ∙ ap (λ t. old ++ tokens_of test (rows_placed (start + length {A = ℕ} t) e.rows)) (append_assoc (opening_bytes e.opening) e.key e.space_after_key)

  -- ---- whether there is one

  abbrev pub any_tokens : List (ℕ × Part) → Bool
  any_tokens placed = list_any (λ q. test q.1) placed

  links_any : (at : ℕ) (ls : List Link) → any_tokens (links_placed at ls) ≡ list_any test (map (λ l. l.part) ls)
  links_any at [] = refl
  links_any at (l ∷ ls) = ap (λ b. test l.part || b) (links_any (at + length (link_bytes l)) ls)

  value_any : (at : ℕ) (v : Value) → any_tokens (value_placed at v) ≡ list_any test (parts_of v)
  value_any at v = ap (λ b. test v.first || b) (links_any (at + length (part_bytes v.first)) v.links)

  rows_any : (at : ℕ) (rows : List Row) → any_tokens (rows_placed at rows) ≡ list_any (λ v. list_any test (parts_of v)) (map (λ row. row.assignment.value) rows)
  rows_any at [] = refl
  rows_any at (row ∷ rows) =
      list_any-append (λ q. test q.1) (value_placed (at + length (row_start row)) row.assignment.value) (rows_placed (at + length (row_bytes row)) rows)
      ∙ ap₂ ◌||◌ (value_any (at + length (row_start row)) row.assignment.value) (rows_any (at + length (row_bytes row)) rows)

  tree_any : (at : ℕ) (tree : Tree) → any_tokens (tree_placed at tree) ≡ any_part test tree
  tree_any at (CommentTree h) = refl
  tree_any at (DefinitionTree d) = value_any (at + length (opening_bytes d.opening ++ bytes_before_value d.assignment)) d.assignment.value ∙ sym (or-false (list_any test (parts_of d.assignment.value)))
  tree_any at (PreambleTree p) = value_any (at + length (opening_bytes p.opening)) p.value ∙ sym (or-false (list_any test (parts_of p.value)))
  tree_any at (EntryTree e) = rows_any (at + length (opening_bytes e.opening ++ (e.key ++ e.space_after_key))) e.rows

  positive : (n : ℕ) → nat_lt 0 (suc n) ≡ true
  positive n = ⊎_elim (λ t. t) (λ f. let p = ltb-false 0 (suc n) f in absurd (omega (arith, p))) (cases_Bool (nat_lt 0 (suc n)))

  tokens_any : (placed : List (ℕ × Part)) → nat_lt 0 (length (tokens_of test placed)) ≡ any_tokens placed
  tokens_any [] = refl
  tokens_any (q ∷ others) = ⊎_elim
      (λ t. ap (λ (l : List (ℕ × Text)). nat_lt 0 (length l)) (tokens-met test q others t) ∙ positive (length (tokens_of test others)) ∙ sym (ap (λ b. b || any_tokens others) t))
      (λ t. ap (λ (l : List (ℕ × Text)). nat_lt 0 (length l)) (tokens-unmet test q others t) ∙ tokens_any others ∙ sym (ap (λ b. b || any_tokens others) t))
      (cases_Bool (test q.1))

  -- an item has tokens exactly where a part of it passes the test
  pub tree-has : (start : ℕ) (tree : Tree) → nat_lt 0 (length (tokens_of test (tree_placed start tree))) ≡ any_part test tree
  tree-has start tree = tokens_any (tree_placed start tree) ∙ tree_any start tree

-- ---- the places are numbers of the machine

definition_split : (o n s x v b c : Text) → o ++ ((((n ++ s) ++ x) ++ v) ++ b) ++ c ≡ (((o ++ n) ++ s) ++ x) ++ (v ++ (b ++ c))
definition_split o n s x v b c = simp append_assoc

preamble_split : (o v b c : Text) → ((o ++ v) ++ b) ++ c ≡ o ++ (v ++ (b ++ c))
preamble_split o v b c = simp append_assoc

entry_split : (o k s r l c : Text) → (o ++ k) ++ (((s ++ r) ++ l) ++ c) ≡ (((o ++ k) ++ s) ++ r) ++ (l ++ c)
entry_split o k s r l c = simp append_assoc

rows_within : (start : ℕ) (before : Text) (rows : List Row) → All (IsRow name_limit) rows → start + length (before ++ flat_map row_bytes rows) < 2 ^ 64 → ArePlacedFields start (fields_after before rows)
rows_within start before [] ok fits = tt
rows_within start before (row ∷ rows) ok fits =
    let this : IsRow name_limit row = All-head (IsRow name_limit) row rows ok in
    let place = value-place before row in
    let parts = ap (length {A = ℕ}) (row-parts row) in
    let long = length-append (row_start row) (value_bytes row.assignment.value ++ row.assignment.space_after) in
    let longer = length-append (value_bytes row.assignment.value) row.assignment.space_after in
    let whole = length-append before (row_bytes row ++ flat_map row_bytes rows) in
    let rest = length-append (row_bytes row) (flat_map row_bytes rows) in (
      record { value = (row.assignment.value, this.assignment.value, refl); place = omega (arith, place, parts, long, longer, whole, rest, fits) },
      rows_within start (before ++ row_bytes row) rows (All-tail (IsRow name_limit) row rows ok) (subst (λ (t : Text). start + length t < 2 ^ 64) (sym (append_assoc before (row_bytes row) (flat_map row_bytes rows))) fits),
    )

-- the fields of an item stand in its bytes
pub fields-within : (start : ℕ) (tree : Tree) → IsTree name_limit tree → start + length (tree_bytes tree) < 2 ^ 64 → ArePlacedFields start (fields_of tree)
fields-within start (CommentTree h) ok fits = tt
fields-within start (DefinitionTree d) ok fits =
    let a : Assignment = d.assignment in
    let o : Text = opening_bytes d.opening in
    let v : Text = value_bytes a.value in
    let x : Text = equals_sign ∷ a.space_before_value in (
      record {
        value = (a.value, ok.assignment.value, refl);
        place = omega (
          arith,
          fits,
          ap (length {A = ℕ}) (definition_split o a.name a.space_before_equals x v a.space_after (close_byte d.opening.delimiter ∷ [])),
          length-append (((o ++ a.name) ++ a.space_before_equals) ++ x) (v ++ (a.space_after ++ close_byte d.opening.delimiter ∷ [])),
          length-append v (a.space_after ++ close_byte d.opening.delimiter ∷ []),
        );
      },
      tt,
    )
fields-within start (PreambleTree p) ok fits =
    let o : Text = opening_bytes p.opening in
    let v : Text = value_bytes p.value in (
      record {
        value = (p.value, ok.value, refl);
        place = omega (arith, fits, ap (length {A = ℕ}) (preamble_split o v p.space_after (close_byte p.opening.delimiter ∷ [])), length-append o (v ++ (p.space_after ++ close_byte p.opening.delimiter ∷ [])), length-append v (p.space_after ++ close_byte p.opening.delimiter ∷ []));
      },
      tt,
    )
fields-within start (EntryTree e) ok fits =
    let before : Text = opening_bytes e.opening ++ e.key ++ e.space_after_key in
    let rows : Text = flat_map row_bytes e.rows in
    let rest : Text = last_comma_bytes e.last_comma ++ close_byte e.opening.delimiter ∷ [] in
    rows_within start before e.rows ok.rows
    (omega (arith, fits, ap (length {A = ℕ}) (entry_split (opening_bytes e.opening) e.key e.space_after_key rows (last_comma_bytes e.last_comma) (close_byte e.opening.delimiter ∷ [])), length-append (before ++ rows) rest))
