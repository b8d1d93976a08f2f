-- The names of fields that get another name: what is seen of the items, and what the definitions say of the entries.
use Rattle.bib_edit.proofs.Words.{◌≡◌, ℕ, suc, ◌+◌, ◌<◌, ◌≤◌, ◌^◌, ◌⊎◌, Bool, true, false, false≢true, ◌&&◌, ◌||◌, nat_lt, ◌==◌, List, [], ◌∷◌, ◌++◌, Some, length, map, drop, slice_get, count_by, ⊎_elim, refl, sym, ◌∙◌, ap, ap₂, subst, arith, append_assoc, append-nil, length-append, list_any, flat_map, cases_Bool, cond-true, cond-false, or_parts, or_assoc, or-false, lt-ltb, count-yes, count-no, eqb-false, length-map, drop_of_length-le}
use Rattle.bib_edit.proofs.Words.{comma, Text, same, Row, Tree, CommentTree, DefinitionTree, PreambleTree, EntryTree, assignment_bytes, row_bytes, opening_bytes, close_byte, last_comma_bytes, value_bytes, tree_bytes, Item, item_bytes, Macros, macros_after, gathered, IsOpenable, entry_in, field_of, has_name, Field, View, field_after, fields_after, fields_of, view_of, start_of, OfReading, is_field, token_seen, tokens_seen, slice_get-within, item-ends, place-next, Reading}
use Rattle.bib_store.specs.Readings.{IsItemNumber}
use Rattle.bib_tokens.proofs.Elements.{drop-next}
use Rattle.edit_spec.specs.Edits.{has_field, would_repeat}
use Rattle.bib_tokens.specs.declared.tokens.Token.{Token}
use Rattle.bib_scan.specs.declared.view.Kind.{Kind}
use Rattle.bib_scan.specs.declared.view.Kind.TheVariants as kind
use Rattle.bib_edit.specs.RenamedFields.{entry_fields, own_fields, has_either, fields_clash, item_clashes, AreNamesPlaced, names_at, names_in}

-- ---- rows as fields, and as they are seen

pub any-fields : (name : Text) (m : Macros) (before : Text) (rows : List Row) → list_any (is_field name) (fields_after before rows) ≡ list_any (has_name name) (map (field_of m) rows)
any-fields name m before [] = refl
any-fields name m before (row ∷ rows) = ap (λ b. same row.assignment.name name || b) (any-fields name m (before ++ row_bytes row) rows)

module _ (from to : Text) where
  count-either : (m : Macros) (before : Text) (rows : List Row) → count_by (has_either from to) (fields_after before rows) ≡ count_by (λ field. has_name from field || has_name to field) (map (field_of m) rows)
  count-either m before [] = refl
  count-either m before (row ∷ rows) =
      let field : Field = field_after (length before) (before ++ comma ∷ row.space_before_name) row.assignment in
      let rest : List Field = fields_after (before ++ row_bytes row) rows in
      ⊎_elim
      (λ t. count-yes (has_either from to) field rest t ∙ ap (λ n. 1 + n) (count-either m (before ++ row_bytes row) rows)
      ∙ sym (count-yes (λ field. has_name from field || has_name to field) (field_of m row) (map (field_of m) rows) t))
      (λ t. count-no (has_either from to) field rest t ∙ count-either m (before ++ row_bytes row) rows
      ∙ sym (count-no (λ field. has_name from field || has_name to field) (field_of m row) (map (field_of m) rows) t))
      (cases_Bool (same row.assignment.name from || same row.assignment.name to))

  -- rows clash where their entry would repeat a name
  pub rows-clash : (m : Macros) (before : Text) (rows : List Row) →
      fields_clash from to (fields_after before rows)
      ≡ (list_any (has_name from) (map (field_of m) rows) && nat_lt 1 (count_by (λ field. has_name from field || has_name to field) (map (field_of m) rows)))
  rows-clash m before rows = ap₂ (λ (b : Bool) (n : ℕ). b && nat_lt 1 n) (any-fields from m before rows) (count-either m before rows)

  -- items clash where an entry would repeat a name
  pub items-clash : (m : Macros) (items : List Item) → list_any (item_clashes from to) items ≡ list_any (would_repeat from to) (gathered entry_in m items)
  items-clash m [] = refl
  items-clash m (item ∷ items) = by_tree (λ m. items-clash m items) item.tree
    where
      by_tree : ((m : Macros) → list_any (item_clashes from to) items ≡ list_any (would_repeat from to) (gathered entry_in m items)) → (tree : Tree) →
          (item_clashes from to (record { tree = tree; trail = item.trail }) || list_any (item_clashes from to) items)
          ≡ list_any (would_repeat from to) (entry_in m tree ++ gathered entry_in (macros_after m tree) items)
      by_tree rest (CommentTree h) = rest m
      by_tree rest (DefinitionTree d) = rest (macros_after m (DefinitionTree d))
      by_tree rest (PreambleTree p) = rest m
      by_tree rest (EntryTree e) = ap₂ ◌||◌ (rows-clash m (opening_bytes e.opening ++ e.key ++ e.space_after_key) e.rows) (rest m)

module _ (from : Text) where
  -- the item is an entry with a field of this name
  abbrev pub has_own : Item → Bool
  has_own item = list_any (is_field from) (own_fields (view_of item))

  pub items-have : (m : Macros) (items : List Item) → list_any has_own items ≡ list_any (has_field from) (gathered entry_in m items)
  items-have m [] = refl
  items-have m (item ∷ items) = by_tree (λ m. items-have m items) item.tree
    where
      by_tree : ((m : Macros) → list_any has_own items ≡ list_any (has_field from) (gathered entry_in m items)) → (tree : Tree) →
          (has_own (record { tree = tree; trail = item.trail }) || list_any has_own items) ≡ list_any (has_field from) (entry_in m tree ++ gathered entry_in (macros_after m tree) items)
      by_tree rest (CommentTree h) = rest m
      by_tree rest (DefinitionTree d) = rest (macros_after m (DefinitionTree d))
      by_tree rest (PreambleTree p) = rest m
      by_tree rest (EntryTree e) = ap₂ ◌||◌ (any-fields from m (opening_bytes e.opening ++ e.key ++ e.space_after_key) e.rows) (rest m)

  -- ---- how many names there are

  pub names-counted : (start : ℕ) (fields : List Field) → length (names_at start from fields) ≡ count_by (is_field from) fields
  names-counted start [] = refl
  names-counted start (field ∷ fields) = ⊎_elim
      (λ t. ap (length {A = ℕ × Text}) (cond-true (is_field from field) ((start + field.name_at, field.name) ∷ names_at start from fields) (names_at start from fields) t)
      ∙ (let rest : suc (length (names_at start from fields)) ≡ count_by (is_field from) (field ∷ fields) = (let r = names-counted start fields in let c = count-yes (is_field from) field fields t in omega (arith, r, c)) in rest))
      (λ t. ap (length {A = ℕ × Text}) (cond-false (is_field from field) ((start + field.name_at, field.name) ∷ names_at start from fields) (names_at start from fields) t)
      ∙ names-counted start fields ∙ sym (count-no (is_field from) field fields t))
      (cases_Bool (is_field from field))

  -- no field has the name, so there is none to replace
  pub names-none : (start : ℕ) (fields : List Field) → list_any (is_field from) fields ≡ false → names_at start from fields ≡ []
  names-none start [] none = refl
  names-none start (field ∷ fields) none =
      let both = or_parts (is_field from field) (list_any (is_field from) fields) none in
      cond-false (is_field from field) ((start + field.name_at, field.name) ∷ names_at start from fields) (names_at start from fields) both.0 ∙ names-none start fields both.1

  -- the names of the first field, and of those after it
  pub names-cons : (start : ℕ) (field : Field) (fields : List Field) → names_at start from (field ∷ fields) ≡ names_at start from (field ∷ []) ++ names_at start from fields
  names-cons start field fields = ⊎_elim
      (λ t. cond-true (is_field from field) ((start + field.name_at, field.name) ∷ names_at start from fields) (names_at start from fields) t
      ∙ sym (ap (λ (l : List (ℕ × Text)). l ++ names_at start from fields) (cond-true (is_field from field) ((start + field.name_at, field.name) ∷ []) [] t)))
      (λ t. cond-false (is_field from field) ((start + field.name_at, field.name) ∷ names_at start from fields) (names_at start from fields) t
      ∙ sym (ap (λ (l : List (ℕ × Text)). l ++ names_at start from fields) (cond-false (is_field from field) ((start + field.name_at, field.name) ∷ []) [] t)))
      (cases_Bool (is_field from field))

  -- the names so far, with those of the next field
  pub names-step : (start : ℕ) (rest more : List Field) (field : Field) (all so_far next : List (ℕ × Text)) → rest ≡ field ∷ more → next ≡ so_far ++ names_at start from (field ∷ []) →
      so_far ++ names_at start from rest ≡ all → next ++ names_at start from more ≡ all
  names-step start rest more field all so_far next is these h =
      ap (λ (l : List (ℕ × Text)). l ++ names_at start from more) these
      ∙ append_assoc so_far (names_at start from (field ∷ [])) (names_at start from more)
      ∙ ap (λ (l : List (ℕ × Text)). so_far ++ l) (sym (names-cons start field more) ∙ sym (ap (names_at start from) is))
      ∙ h

  some-append : (xs ys : List (ℕ × Text)) → nat_lt 0 (length (xs ++ ys)) ≡ (nat_lt 0 (length xs) || nat_lt 0 (length ys))
  some-append [] ys = refl
  some-append (x ∷ xs) ys = lt-ltb 0 (length (x ∷ (xs ++ ys))) (omega arith) ∙ sym (ap (λ b. b || nat_lt 0 (length ys)) (lt-ltb 0 (length (x ∷ xs)) (omega arith)))

  pub some-names : (start : ℕ) (fields : List Field) → nat_lt 0 (length (names_at start from fields)) ≡ list_any (is_field from) fields
  some-names start [] = refl
  some-names start (field ∷ fields) =
      ap (λ (l : List (ℕ × Text)). nat_lt 0 (length l)) (names-cons start field fields)
      ∙ some-append (names_at start from (field ∷ [])) (names_at start from fields)
      ∙ ap₂ ◌||◌ (one (cases_Bool (is_field from field))) (some-names start fields)
    where
      one : (is_field from field ≡ true) ⊎ (is_field from field ≡ false) → nat_lt 0 (length (names_at start from (field ∷ []))) ≡ is_field from field
      one b = ⊎_elim
          (λ t. ap (λ (l : List (ℕ × Text)). nat_lt 0 (length l)) (cond-true (is_field from field) ((start + field.name_at, field.name) ∷ []) [] t) ∙ sym t)
          (λ t. ap (λ (l : List (ℕ × Text)). nat_lt 0 (length l)) (cond-false (is_field from field) ((start + field.name_at, field.name) ∷ []) [] t) ∙ sym t)
          b

  -- there are names to replace where an entry has such a field
  pub some-in : (at : ℕ) (items : List Item) → nat_lt 0 (length (names_in at from items)) ≡ list_any has_own items
  some-in at [] = refl
  some-in at (item ∷ items) =
      some-append (names_at at from (own_fields (view_of item))) (names_in (at + length (item_bytes item)) from items)
      ∙ ap₂ ◌||◌ (some-names at (own_fields (view_of item))) (some-in (at + length (item_bytes item)) items)

-- ---- their places

row-placed : (before : Text) (row : Row) → (field_after (length before) (before ++ comma ∷ row.space_before_name) row.assignment).name_at ≤ length (before ++ row_bytes row)
row-placed before row =
    let c : Text = comma ∷ row.space_before_name in
    let long = length-append before (row_bytes row) in
    let head = length-append before c in
    let rest = length-append c (assignment_bytes row.assignment) in
    omega (arith, long, head, rest)

rows-placed : (start : ℕ) (before : Text) (rows : List Row) → start + length (before ++ flat_map row_bytes rows) < 2 ^ 64 → AreNamesPlaced start (fields_after before rows)
rows-placed start before [] within = tt
rows-placed start before (row ∷ rows) within =
    let whole : length (before ++ flat_map row_bytes (row ∷ rows)) ≡ length ((before ++ row_bytes row) ++ flat_map row_bytes rows) = ap (length {A = ℕ}) (sym (append_assoc before (row_bytes row) (flat_map row_bytes rows))) in
    let parted = length-append (before ++ row_bytes row) (flat_map row_bytes rows) in
    let here = row-placed before row in (
      omega (arith, within, whole, parted, here),
      rows-placed start (before ++ row_bytes row) rows (omega (arith, within, whole)),
    )

-- the names of an item in a file have places there
pub tree-placed : (start : ℕ) (tree : Tree) → start + length (tree_bytes tree) < 2 ^ 64 → AreNamesPlaced start (fields_of tree)
tree-placed start (CommentTree h) within = tt
tree-placed start (DefinitionTree d) within =
    let o : Text = opening_bytes d.opening in
    let l = length-append (o ++ assignment_bytes d.assignment) (close_byte d.opening.delimiter ∷ []) in let m = length-append o (assignment_bytes d.assignment) in (omega (arith, within, l, m), tt)
tree-placed start (PreambleTree p) within =
    let o : Text = opening_bytes p.opening in
    let v : Text = value_bytes p.value in
    let l = length-append ((o ++ v) ++ p.space_after) (close_byte p.opening.delimiter ∷ []) in let m = length-append (o ++ v) p.space_after in let n = length-append o v in (omega (arith, within, l, m, n), tt)
tree-placed start (EntryTree e) within =
    let o : Text = opening_bytes e.opening ++ e.key in
    let s : Text = e.space_after_key in
    let r : Text = flat_map row_bytes e.rows in
    let c : Text = last_comma_bytes e.last_comma ++ close_byte e.opening.delimiter ∷ [] in
    let whole : length (tree_bytes (EntryTree e)) ≡ length (((o ++ s) ++ r) ++ c) = ap (length {A = ℕ}) (entry_parts o s r (last_comma_bytes e.last_comma) (close_byte e.opening.delimiter ∷ [])) in
    let parted = length-append ((o ++ s) ++ r) c in
    rows-placed start (o ++ s) e.rows (omega (arith, within, whole, parted))
  where
    entry_parts : (o s r l c : Text) → o ++ (((s ++ r) ++ l) ++ c) ≡ ((o ++ s) ++ r) ++ (l ++ c)
    entry_parts o s r l c = simp append_assoc

-- the names of item n have places in the file
pub names-placed : (file : Text) (n start : ℕ) (view : View) → IsOpenable file → IsItemNumber file n → OfReading file (λ db. start ≡ start_of db n) →
    OfReading file (λ db. (i : Item) → slice_get db.items n ≡ Some i → view ≡ view_of i) → AreNamesPlaced start view.fields
names-placed file n start view is within at seen =
    let db = is.0 in
    let reads = is.1.reads in
    let it = slice_get-within db.items n (within db reads) in
    let ends = item-ends file db n it.0 reads it.1 in
    let short = is.1.short in
    let here = at db reads in
    let long = length-append (tree_bytes it.0.tree) it.0.trail in
    subst (λ (v : View). AreNamesPlaced start v.fields) (sym (seen db reads it.0 it.1)) (tree-placed start it.0.tree (omega (arith, ends, short, here, long)))

-- ---- on the way through the items

-- with what the items from number k on have, this is what all have; item k begins at this place
pub record AreFoundTo (from to : Text) (db : Reading) (k at : ℕ) (names : List (ℕ × Text)) (clashes : Bool) : Type 0 where
  pub place : at ≡ start_of db k
  pub all_names : names ++ names_in at from (drop k db.items) ≡ names_in (start_of db 0) from db.items
  pub all_clashes : (clashes || list_any (item_clashes from to) (drop k db.items)) ≡ list_any (item_clashes from to) db.items

module _ (from to : Text) (db : Reading) where
  pub found-start : (at : ℕ) → at ≡ start_of db 0 → AreFoundTo from to db 0 at [] false
  found-start at is = record { place = is; all_names = ap (λ k. names_in k from db.items) is; all_clashes = refl }

  pub found-next : (k at : ℕ) (names more : List (ℕ × Text)) (clashes here : Bool) (view : View) (body trail : Text) → k < length db.items →
      ((i : Item) → slice_get db.items k ≡ Some i → view ≡ view_of i) → body ≡ view.body → trail ≡ view.trail →
      more ≡ names ++ names_at at from (own_fields view) → here ≡ fields_clash from to (own_fields view) →
      AreFoundTo from to db k at names clashes → AreFoundTo from to db (k + 1) (at + (length body + length trail)) more (clashes || here)
  found-next k at names more clashes here view body trail lt seen body_is trail_is these clash so_far =
      let it = slice_get-within db.items k lt in
      let item = it.0 in
      let is : view ≡ view_of item = seen item it.1 in
      let rest = drop-next db.items k item it.1 in
      let b = ap (length {A = ℕ}) (body_is ∙ ap (λ (v : View). v.body) is) in
      let t = ap (length {A = ℕ}) (trail_is ∙ ap (λ (v : View). v.trail) is) in
      let next : at + (length body + length trail) ≡ at + length (item_bytes item) = (let l = length-append (tree_bytes item.tree) item.trail in omega (arith, b, t, l)) in
      let own : own_fields view ≡ own_fields (view_of item) = ap own_fields is in
      record {
        place = place-next db k at view body trail lt seen body_is trail_is so_far.place;
        all_names = ap₂ (λ (l : List (ℕ × Text)) (n : ℕ). l ++ names_in n from (drop (k + 1) db.items)) (these ∙ ap (λ fields. names ++ names_at at from fields) own) next
            ∙ append_assoc names (names_at at from (own_fields (view_of item))) (names_in (at + length (item_bytes item)) from (drop (k + 1) db.items))
            ∙ sym (ap (λ (l : List Item). names ++ names_in at from l) rest)
            ∙ so_far.all_names;
        all_clashes = or_assoc clashes here (list_any (item_clashes from to) (drop (k + 1) db.items))
            ∙ ap (λ b. clashes || (b || list_any (item_clashes from to) (drop (k + 1) db.items))) (clash ∙ ap (fields_clash from to) own)
            ∙ sym (ap (λ (l : List Item). clashes || list_any (item_clashes from to) l) rest)
            ∙ so_far.all_clashes;
      }

  pub found-names : (k at : ℕ) (names : List (ℕ × Text)) (clashes : Bool) → length db.items ≤ k → AreFoundTo from to db k at names clashes → names ≡ names_in (start_of db 0) from db.items
  found-names k at names clashes past so_far =
      sym (append-nil names) ∙ ap (λ (l : List Item). names ++ names_in at from l) (sym (drop_of_length-le db.items past)) ∙ so_far.all_names

  pub found-clashes : (k at : ℕ) (names : List (ℕ × Text)) (clashes : Bool) → length db.items ≤ k → AreFoundTo from to db k at names clashes → clashes ≡ list_any (item_clashes from to) db.items
  found-clashes k at names clashes past so_far =
      sym (or-false clashes) ∙ ap (λ (l : List Item). clashes || list_any (item_clashes from to) l) (sym (drop_of_length-le db.items past)) ∙ so_far.all_clashes

-- ---- the kinds of items

-- if the item has such a field of its own, it is an entry
pub own-all : (name : Text) (view : View) → list_any (is_field name) (own_fields view) ≡ true → own_fields view ≡ view.fields
own-all name view has = by_kind view.kind has
  where
    by_kind : (k : Kind) → list_any (is_field name) (entry_fields k view.fields) ≡ true → entry_fields k view.fields ≡ view.fields
    by_kind kind.Entry has = refl
    by_kind kind.Macro has = absurd (false≢true has)
    by_kind kind.Preamble has = absurd (false≢true has)
    by_kind kind.Comment has = absurd (false≢true has)

-- tokens that are not none are some
pub some-tokens : (tokens : List Token) → (length tokens == 0) ≡ false → 0 < length (tokens_seen tokens)
some-tokens tokens ne = let other = eqb-false (length tokens) 0 ne in let many = length-map tokens token_seen in omega (arith, other, many)
