-- The chunks of trees and items, read before an edit and afterwards.
use Rattle.edit_spec.proofs.Words.{◌≡◌, Bool, true, false, List, ◌∷◌, ◌++◌, Option, Some, None, option_map, unwrap_or, refl, sym, ◌∙◌, ap, ap₂, append_assoc, append-nil, map, flat_map, flat_map-append, comma, Text, Part, Link, Value, Assignment, Row, Definition, Preamble, Entry, Tree, CommentTree}
use Rattle.edit_spec.proofs.Words.{DefinitionTree, PreambleTree, EntryTree, value_bytes, row_bytes, close_byte, last_comma_bytes, tree_bytes, Item, item_bytes, row_start, Chunk, Kept, Replaced, changed, tree_with, items_with, token, entry_chunks, items_chunks, kept_items, kept_rows}
use Rattle.std.proofs.Common.{[]}
use Rattle.std.specs.Prelude.{if◌then◌else◌}
use Rattle.bib_spec.specs.Bytes.{hash, equals_sign}
use Rattle.bib_spec.specs.Tree.{part_bytes, link_bytes, assignment_bytes, head_bytes, opening_bytes, entry_bytes}
use Rattle.bib_spec.specs.Pieces.{old_of, new_of}
use Rattle.edit_spec.specs.EditChunks.{part_token, link_chunks, value_chunks, assignment_chunks, row_chunks, after_rows, tree_chunks, item_chunks}

-- a chunk's bytes, before or afterwards
abbrev pub chunk_text : Bool → Chunk → Text
chunk_text afterwards (Kept t) = t
chunk_text afterwards (Replaced old new) = if afterwards then new else old

abbrev pub read : Bool → List Chunk → Text
read afterwards chunks = flat_map (chunk_text afterwards) chunks

pub old-read : (chunks : List Chunk) → old_of chunks ≡ read false chunks
old-read [] = refl
old-read (Kept t ∷ chunks) = ap (λ l. t ++ l) (old-read chunks)
old-read (Replaced old new ∷ chunks) = ap (λ l. old ++ l) (old-read chunks)

pub new-read : (chunks : List Chunk) → new_of chunks ≡ read true chunks
new-read [] = refl
new-read (Kept t ∷ chunks) = ap (λ l. t ++ l) (new-read chunks)
new-read (Replaced old new ∷ chunks) = ap (λ l. new ++ l) (new-read chunks)

pub read-append : (b : Bool) (xs ys : List Chunk) → read b (xs ++ ys) ≡ read b xs ++ read b ys
read-append b xs ys = flat_map-append (chunk_text b) xs ys

-- ---- tokens

pub token_old : (t : Text) (o : Option Text) → chunk_text false (token t o) ≡ t
token_old t None = refl
token_old t (Some new) = refl

pub token_new : (t : Text) (o : Option Text) → chunk_text true (token t o) ≡ unwrap_or o t
token_new t None = refl
token_new t (Some new) = refl

part_new : (part : Part) (o : Option Part) → chunk_text true (token (part_bytes part) (option_map part_bytes o)) ≡ part_bytes (unwrap_or o part)
part_new part None = refl
part_new part (Some new) = refl

-- ---- regrouping

pub assignment_regroup : (n x y v s : Text) → n ++ ((x ++ y) ++ (v ++ s)) ≡ n ++ x ++ y ++ v ++ s
assignment_regroup n x y v s = simp append_assoc

preamble_regroup : (o v s c : Text) → o ++ (v ++ (s ++ c)) ≡ o ++ v ++ s ++ c
preamble_regroup o v s c = simp append_assoc

entry_regroup : (o k s r l c : Text) → o ++ (k ++ ((s ++ r) ++ (l ++ c))) ≡ o ++ k ++ (s ++ r ++ l ++ c)
entry_regroup o k s r l c = simp append_assoc

row_regroup : (c n x y v s : Text) → c ++ (n ++ x ++ y ++ v ++ s) ≡ (c ++ (n ++ (x ++ y))) ++ (v ++ s)
row_regroup c n x y v s = simp append_assoc

-- a row is the bytes before its value, the value, and the bytes after it
pub row-parts : (row : Row) → row_bytes row ≡ row_start row ++ (value_bytes row.assignment.value ++ row.assignment.space_after)
row-parts row = row_regroup (comma ∷ row.space_before_name) row.assignment.name row.assignment.space_before_equals (equals_sign ∷ row.assignment.space_before_value) (value_bytes row.assignment.value) row.assignment.space_after

-- ---- trees with names and parts changed

module _ (name : Text → Text) (part : Part → Part) where
  abbrev pub link_by : Link → Link
  link_by l = record l { part = part l.part }

  abbrev pub value_by : Value → Value
  value_by v = record v { first = part v.first; links = map link_by v.links }

  abbrev pub assignment_by : Assignment → Assignment
  assignment_by a = record a { name = name a.name; value = value_by a.value }

  abbrev pub row_by : Row → Row
  row_by row = let a : Assignment = record row.assignment { value = value_by row.assignment.value } in record row { assignment = a }

  abbrev pub tree_by : Tree → Tree
  tree_by (CommentTree h) = CommentTree h
  tree_by (DefinitionTree d) = DefinitionTree (record d { assignment = assignment_by d.assignment })
  tree_by (PreambleTree p) = PreambleTree (record p { value = value_by p.value })
  tree_by (EntryTree e) = EntryTree (record e { rows = map row_by e.rows })

  abbrev pub item_by : Item → Item
  item_by item = record item { tree = tree_by item.tree }

pub last-read : (b : Bool) (chunks : List Chunk) (t bytes : Text) → read b chunks ≡ bytes → read b (chunks ++ Kept t ∷ []) ≡ bytes ++ t
last-read b chunks t bytes e = read-append b chunks (Kept t ∷ []) ∙ ap₂ ◌++◌ e (append-nil t)

-- an entry with its key, and the bytes between the key and the end of the rows
pub entry-read : (b : Bool) (key : Chunk) (rows : List Chunk) (e : Entry) (new_key space : Text) (new_rows : List Row) → chunk_text b key ≡ new_key → read b rows ≡ space ++ flat_map row_bytes new_rows →
    read b (entry_chunks key rows e) ≡ entry_bytes (record e { key = new_key; space_after_key = space; rows = new_rows })
entry-read b key rows e new_key space new_rows k r =
    ap₂ (λ x y. opening_bytes e.opening ++ (x ++ y)) k (last-read b rows (after_rows e) (space ++ flat_map row_bytes new_rows) r)
    ∙ entry_regroup (opening_bytes e.opening) new_key space (flat_map row_bytes new_rows) (last_comma_bytes e.last_comma) (close_byte e.opening.delimiter ∷ [])

module _ (b : Bool) (names : Text → Option Text) (parts : Part → Option Part) (name : Text → Text) (part : Part → Part)
    (name_is : (t : Text) → chunk_text b (token t (names t)) ≡ name t)
    (part_is : (p : Part) → chunk_text b (part_token parts p) ≡ part_bytes (part p))
  where
    links-read : (links : List Link) → read b (flat_map (link_chunks parts) links) ≡ flat_map link_bytes (map (link_by name part) links)
    links-read [] = refl
    links-read (l ∷ links) = read-append b (link_chunks parts l) (flat_map (link_chunks parts) links)
        ∙ ap₂ ◌++◌ (ap (λ t. (l.space_before_hash ++ hash ∷ l.space_after_hash) ++ t) (append-nil (chunk_text b (part_token parts l.part)) ∙ part_is l.part)) (links-read links)

    value-read : (v : Value) → read b (value_chunks parts v) ≡ value_bytes (value_by name part v)
    value-read v = ap₂ ◌++◌ (part_is v.first) (links-read v.links)

    assignment-read : (a : Assignment) → read b (assignment_chunks names parts a) ≡ assignment_bytes (assignment_by name part a)
    assignment-read a =
        ap₂ (λ n t. n ++ ((a.space_before_equals ++ equals_sign ∷ a.space_before_value) ++ t)) (name_is a.name) (last-read b (value_chunks parts a.value) a.space_after (value_bytes (value_by name part a.value)) (value-read a.value))
        ∙ assignment_regroup (name a.name) a.space_before_equals (equals_sign ∷ a.space_before_value) (value_bytes (value_by name part a.value)) a.space_after

    row-read : (row : Row) → read b (row_chunks parts row) ≡ row_bytes (row_by name part row)
    row-read row =
        ap (λ t. (comma ∷ row.space_before_name) ++ t)
        (ap (λ t. row.assignment.name ++ ((row.assignment.space_before_equals ++ equals_sign ∷ row.assignment.space_before_value) ++ t))
        (last-read b (value_chunks parts row.assignment.value) row.assignment.space_after (value_bytes (value_by name part row.assignment.value)) (value-read row.assignment.value))
        ∙ assignment_regroup row.assignment.name row.assignment.space_before_equals (equals_sign ∷ row.assignment.space_before_value) (value_bytes (value_by name part row.assignment.value)) row.assignment.space_after)

    rows-read : (rows : List Row) → read b (flat_map (row_chunks parts) rows) ≡ flat_map row_bytes (map (row_by name part) rows)
    rows-read [] = refl
    rows-read (row ∷ rows) = read-append b (row_chunks parts row) (flat_map (row_chunks parts) rows) ∙ ap₂ ◌++◌ (row-read row) (rows-read rows)

    tree-read : (tree : Tree) → read b (tree_chunks names parts tree) ≡ tree_bytes (tree_by name part tree)
    tree-read (CommentTree h) = append-nil (head_bytes h)
    tree-read (DefinitionTree d) =
        ap (λ t. opening_bytes d.opening ++ t) (last-read b (assignment_chunks names parts d.assignment) (close_byte d.opening.delimiter ∷ []) (assignment_bytes (assignment_by name part d.assignment)) (assignment-read d.assignment))
        ∙ sym (append_assoc (opening_bytes d.opening) (assignment_bytes (assignment_by name part d.assignment)) (close_byte d.opening.delimiter ∷ []))
    tree-read (PreambleTree p) =
        ap (λ t. opening_bytes p.opening ++ t) (last-read b (value_chunks parts p.value) (p.space_after ++ close_byte p.opening.delimiter ∷ []) (value_bytes (value_by name part p.value)) (value-read p.value))
        ∙ preamble_regroup (opening_bytes p.opening) (value_bytes (value_by name part p.value)) p.space_after (close_byte p.opening.delimiter ∷ [])
    tree-read (EntryTree e) = entry-read b (Kept e.key) (Kept e.space_after_key ∷ flat_map (row_chunks parts) e.rows) e e.key e.space_after_key (map (row_by name part) e.rows) refl (ap (λ t. e.space_after_key ++ t) (rows-read e.rows))

    pub items-read : (items : List Item) → read b (items_chunks names parts items) ≡ flat_map item_bytes (map (item_by name part) items)
    items-read [] = refl
    items-read (item ∷ items) = read-append b (item_chunks names parts item) (items_chunks names parts items)
        ∙ ap₂ ◌++◌ (last-read b (tree_chunks names parts item.tree) item.trail (tree_bytes (tree_by name part item.tree)) (tree-read item.tree)) (items-read items)

map_same : {X : Type 0} (f : X → X) → ((x : X) → f x ≡ x) → (xs : List X) → map f xs ≡ xs
map_same f h [] = refl
map_same f h (x ∷ xs) = ap₂ ◌∷◌ (h x) (map_same f h xs)

-- the same names and parts are the same trees
value_same : (v : Value) → value_by (λ t. t) (λ p. p) v ≡ v
value_same v = ap (λ links. let it : Value = record v { links = links } in it) (map_same (link_by (λ t. t) (λ p. p)) (λ l. refl) v.links)

row_same : (row : Row) → row_by (λ t. t) (λ p. p) row ≡ row
row_same row = ap (λ v. let it : Row = record row { assignment = record row.assignment { value = v } } in it) (value_same row.assignment.value)

tree_same : (tree : Tree) → tree_by (λ t. t) (λ p. p) tree ≡ tree
tree_same (CommentTree h) = refl
tree_same (DefinitionTree d) = ap (λ v. let it : Definition = record d { assignment = record d.assignment { value = v } } in DefinitionTree it) (value_same d.assignment.value)
tree_same (PreambleTree p) = ap (λ v. let it : Preamble = record p { value = v } in PreambleTree it) (value_same p.value)
tree_same (EntryTree e) = ap (λ rows. let it : Entry = record e { rows = rows } in EntryTree it) (map_same (row_by (λ t. t) (λ p. p)) row_same e.rows)

item_same : (item : Item) → item_by (λ t. t) (λ p. p) item ≡ item
item_same item = ap (λ t. let it : Item = record item { tree = t } in it) (tree_same item.tree)

module _ (names : Text → Option Text) (parts : Part → Option Part) where
  pub items-old : (items : List Item) → read false (items_chunks names parts items) ≡ flat_map item_bytes items
  items-old items =
      items-read false names parts (λ t. t) (λ p. p) (λ t. token_old t (names t)) (λ p. token_old (part_bytes p) (option_map part_bytes (parts p))) items
      ∙ ap (flat_map item_bytes) (map_same (item_by (λ t. t) (λ p. p)) item_same items)

  tree_changed : (tree : Tree) → tree_by (changed names) (changed parts) tree ≡ tree_with names parts tree
  tree_changed (CommentTree h) = refl
  tree_changed (DefinitionTree d) = refl
  tree_changed (PreambleTree p) = refl
  tree_changed (EntryTree e) = refl

  items_changed : (items : List Item) → map (item_by (changed names) (changed parts)) items ≡ items_with names parts items
  items_changed [] = refl
  items_changed (item ∷ items) = ap₂ ◌∷◌ (ap (λ t. let it : Item = record item { tree = t } in it) (tree_changed item.tree)) (items_changed items)

  pub items-new : (items : List Item) → read true (items_chunks names parts items) ≡ flat_map item_bytes (items_with names parts items)
  items-new items =
      items-read true names parts (changed names) (changed parts) (λ t. token_new t (names t)) (λ p. part_new p (parts p)) items
      ∙ ap (flat_map item_bytes) (items_changed items)

-- ---- what is kept

pub rows-kept : (b : Bool) (rows : List Row) → read b (kept_rows rows) ≡ flat_map row_bytes rows
rows-kept b [] = refl
rows-kept b (row ∷ rows) = ap (λ t. row_bytes row ++ t) (rows-kept b rows)

pub items-kept : (b : Bool) (items : List Item) → read b (kept_items items) ≡ flat_map item_bytes items
items-kept b [] = refl
items-kept b (item ∷ items) = ap (λ t. item_bytes item ++ t) (items-kept b items)
