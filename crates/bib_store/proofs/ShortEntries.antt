-- How long the texts of an item are, at most.
use Rattle.bib_store.proofs.Words.{◌≡◌, ℕ, suc, ◌+◌, ◌*◌, ◌<◌, ◌≤◌, true, List, [], ◌∷◌, ◌++◌, length, map, Option, Some, None, ⊎_elim, refl, sym, ◌∙◌, ap, subst, arith, length-append, flat_map, mul-le-mul_right, AllByRecursion, cases_Bool, cond-true, cond-false, none-some, All-head, All-tail}
use Rattle.bib_store.proofs.Words.{name_limit, comma, equals_sign, Text, folded, Tree, Part, Braced, Quoted, Digits, Macro, Value, Row, Entry, CommentTree, DefinitionTree, PreambleTree, EntryTree, IsValue, IsRow, IsTree, value_bytes, row_bytes, assignment_bytes, opening_bytes, after_key_bytes}
use Rattle.bib_store.proofs.Words.{last_comma_bytes, close_byte, entry_bytes, tree_bytes, item_bytes, Macros, macros_after, macros_at, part_text, raw_text, raw_texts_from, raw_limit, row_start, bytes_before_value, View, view_of, AreAtMost, is_entry_tree, first_too_long, placed_texts, row_texts}
use Rattle.std.proofs.Common.{unwrap_or, All}
use Rattle.std.proofs.Math.Nat.{le-mul_of_pos_right, add-mul}
use Rattle.std.specs.Str.{bytes_eq}
use Rattle.bib_spec.specs.Bytes.{hash, close_brace, quote}
use Rattle.bib_spec.specs.Tree.{Link, IsPart, IsLink, part_bytes, link_bytes, definition_bytes, preamble_bytes}
use Rattle.bib_spec.specs.Reading.{Item}
use Rattle.bib_spec.specs.Texts.{updated}
use Rattle.bib_scan.proofs.PartLaws.{name_parts}
use Rattle.bib_store.proofs.EntryItems.{entry_tree}
use Rattle.bib_store.proofs.RowTexts.{first_fits}
use Rattle.bib_store.proofs.Placed.{fit_joined}

module _ (m : Macros) (k : ℕ) (within : AreAtMost k m) (some : 0 < k) where
  wide : (a b : ℕ) → a ≤ b → a ≤ b * k
  wide a b le = let more = le-mul_of_pos_right b some in omega (arith, le, more)

  known : (name : Text) (o : Option Text) → m (folded name) ≡ o → length (unwrap_or o []) ≤ k
  known name None is = omega arith
  known name (Some t) is = within (folded name) t is

  part_within : (p : Part) → IsPart name_limit p → length (part_text m p) ≤ length (part_bytes p) * k
  part_within (Braced t) is = wide (length t) (length (part_bytes (Braced t))) (omega (arith, length-append t (close_brace ∷ [])))
  part_within (Quoted t) is = wide (length t) (length (part_bytes (Quoted t))) (omega (arith, length-append t (quote ∷ [])))
  part_within (Digits t) is = wide (length t) (length t) (omega arith)
  part_within (Macro name) is =
      let low = known name (m (folded name)) refl in
      let one : 1 ≤ length name = (name_parts name_limit name is).some in
      let more : 1 * k ≤ length name * k = mul-le-mul_right k one in
      omega (arith, low, more)

  links_within : (ls : List Link) → All (IsLink name_limit) ls → length (flat_map (part_text m) (map (λ l. l.part) ls)) ≤ length (flat_map link_bytes ls) * k
  links_within [] are = omega arith
  links_within (l ∷ ls) are =
      let here = part_within l.part (All-head (IsLink name_limit) l ls are).part in
      let rest = links_within ls (All-tail (IsLink name_limit) l ls are) in
      let texts = length-append (part_text m l.part) (flat_map (part_text m) (map (λ (x : Link). x.part) ls)) in
      let bytes = length-append (link_bytes l) (flat_map link_bytes ls) in
      let long : length (part_bytes l.part) ≤ length (link_bytes l) =
      omega (arith, length-append l.space_before_hash (hash ∷ l.space_after_hash ++ part_bytes l.part), length-append l.space_after_hash (part_bytes l.part), length-append (l.space_before_hash ++ hash ∷ l.space_after_hash) (part_bytes l.part)) in
      let more = mul-le-mul_right k long in
      let sum = add-mul (length (link_bytes l)) (length (flat_map link_bytes ls)) k in
      let all : length (flat_map link_bytes (l ∷ ls)) * k ≡ (length (link_bytes l) + length (flat_map link_bytes ls)) * k = ap (λ (n : ℕ). n * k) bytes in
      omega (arith, here, rest, texts, more, sum, all)

  pub value_within : (v : Value) → IsValue name_limit v → length (raw_text m v) ≤ length (value_bytes v) * k
  value_within v is =
      let here = part_within v.first is.first in
      let rest = links_within v.links is.links in
      let texts = length-append (part_text m v.first) (flat_map (part_text m) (map (λ (x : Link). x.part) v.links)) in
      let bytes = length-append (part_bytes v.first) (flat_map link_bytes v.links) in
      let sum = add-mul (length (part_bytes v.first)) (length (flat_map link_bytes v.links)) k in
      let all : length (value_bytes v) * k ≡ (length (part_bytes v.first) + length (flat_map link_bytes v.links)) * k = ap (λ (n : ℕ). n * k) bytes in
      omega (arith, here, rest, texts, sum, all)

  -- rows that have at most n bytes
  rows_short : (n : ℕ) → n * k ≤ raw_limit → (at : ℕ) (rows : List Row) → All (IsRow name_limit) rows → length (flat_map row_bytes rows) ≤ n → first_too_long (row_texts at m rows) ≡ None
  rows_short n few at [] are low = refl
  rows_short n few at (row ∷ rows) are low =
      let a = row.assignment in
      let front = a.name ++ a.space_before_equals ++ equals_sign ∷ a.space_before_value in
      let value = value_within a.value (All-head (IsRow name_limit) row rows are).assignment.value in
      let all = length-append (row_bytes row) (flat_map row_bytes rows) in
      let inside : length (value_bytes a.value) ≤ length (row_bytes row) =
      omega (arith, length-append (comma ∷ row.space_before_name) (assignment_bytes a), length-append (front ++ value_bytes a.value) a.space_after, length-append front (value_bytes a.value)) in
      let fits : length (value_bytes a.value) ≤ n = omega (arith, inside, all, low) in
      let most = mul-le-mul_right k fits in
      first_fits (at + length (row_start row)) (raw_text m a.value) (row_texts (at + length (row_bytes row)) m rows) (omega (arith, value, most, few))
      ∙ rows_short n few (at + length (row_bytes row)) rows (All-tail (IsRow name_limit) row rows are) (omega (arith, all, low))

  rows_inside : (e : Entry) → length (flat_map row_bytes e.rows) ≤ length (entry_bytes e)
  rows_inside e =
      let rows = flat_map row_bytes e.rows in
      let last = last_comma_bytes e.last_comma in
      let close = close_byte e.opening.delimiter ∷ [] in
      omega (
        arith,
        length-append (opening_bytes e.opening ++ e.key) (after_key_bytes e),
        length-append (e.space_after_key ++ rows ++ last) close,
        length-append (e.space_after_key ++ rows) last,
        length-append e.space_after_key rows,
      )

  pub entry_short : (e : Entry) → IsTree name_limit (EntryTree e) → length (entry_bytes e) * k ≤ raw_limit → first_too_long (placed_texts m (EntryTree e)) ≡ None
  entry_short e is few =
      rows_short (length (entry_bytes e)) few (length (opening_bytes e.opening ++ (e.key ++ e.space_after_key))) e.rows is.rows (rows_inside e)

  pub entry_is_short : (v : View) → length v.body * k ≤ raw_limit → (i : Item) → IsTree name_limit i.tree → is_entry_tree i.tree ≡ true → v ≡ view_of i → first_too_long (placed_texts m i.tree) ≡ None
  entry_is_short v few i is entry seen = there i.tree (entry_tree i.tree entry) is (ap (λ (w : View). w.body) seen)
    where
      there : (t : Tree) → (e : Entry) × (t ≡ EntryTree e) → IsTree name_limit t → v.body ≡ tree_bytes t → first_too_long (placed_texts m t) ≡ None
      there t (e, e_is) is_tree body =
          let bytes : v.body ≡ entry_bytes e = body ∙ ap tree_bytes e_is in
          ap (λ (x : Tree). first_too_long (placed_texts m x)) e_is
          ∙ entry_short e (subst (IsTree name_limit) e_is is_tree) (subst (λ (b : Text). length b * k ≤ raw_limit) bytes few)

-- ---- any item

-- in its own definition a name gives nothing
own_within : (m : Macros) (k : ℕ) (name : Text) → AreAtMost k m → AreAtMost k (updated m name None)
own_within m k name within x t is = ⊎_elim
    (λ h. absurd (none-some t (sym (cond-true (bytes_eq x (folded name)) None (m x) h) ∙ is)))
    (λ h. within x t (sym (cond-false (bytes_eq x (folded name)) None (m x) h) ∙ is))
    (cases_Bool (bytes_eq x (folded name)))

tree_short : (m : Macros) (k : ℕ) → AreAtMost k m → 0 < k → (tree : Tree) → IsTree name_limit tree → length (tree_bytes tree) * k ≤ raw_limit → first_too_long (placed_texts m tree) ≡ None
tree_short m k within some (CommentTree h) is few = refl
tree_short m k within some (EntryTree e) is few = entry_short m k within some e is few
tree_short m k within some (PreambleTree p) is few =
    let start = opening_bytes p.opening in
    let close = close_byte p.opening.delimiter ∷ [] in
    let inside : length (value_bytes p.value) ≤ length (preamble_bytes p)
    = omega (arith, length-append (start ++ value_bytes p.value ++ p.space_after) close, length-append (start ++ value_bytes p.value) p.space_after, length-append start (value_bytes p.value)) in
    let value = value_within m k within some p.value is.value in
    let most = mul-le-mul_right k inside in
    first_fits (length start) (raw_text m p.value) [] (omega (arith, value, most, few))
tree_short m k within some (DefinitionTree d) is few =
    let a = d.assignment in
    let start = opening_bytes d.opening in
    let front = a.name ++ a.space_before_equals ++ equals_sign ∷ a.space_before_value in
    let close = close_byte d.opening.delimiter ∷ [] in
    let own = updated m a.name None in
    let inside : length (value_bytes a.value) ≤ length (definition_bytes d)
    = omega (arith, length-append (start ++ assignment_bytes a) close, length-append start (assignment_bytes a), length-append (front ++ value_bytes a.value) a.space_after, length-append front (value_bytes a.value)) in
    let value = value_within own k (own_within m k a.name within) some a.value is.assignment.value in
    let most = mul-le-mul_right k inside in
    first_fits (length (start ++ bytes_before_value a)) (raw_text own a.value) [] (omega (arith, value, most, few))

-- items whose bodies are short, if no macro stands for much before any of them
pub all_short : (k : ℕ) → 0 < k → (at : ℕ) (m : Macros) (items : List Item) → ((n : ℕ) → AreAtMost k (macros_at m items n)) → AllByRecursion (λ i. IsTree name_limit i.tree) items
    → AllByRecursion (λ i. length (tree_bytes i.tree) * k ≤ raw_limit) items → first_too_long (raw_texts_from at m items) ≡ None
all_short k some at m [] within trees short = refl
all_short k some at m (i ∷ items) within trees short =
    fit_joined at m i items (tree_short m k (within 0) some i.tree trees.0 short.0)
    (all_short k some (at + length (item_bytes i)) (macros_after m i.tree) items (λ n. within (suc n)) trees.1 short.1)
