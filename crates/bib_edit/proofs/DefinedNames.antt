-- The name that a definition gives a text.
use Rattle.bib_edit.proofs.Words.{◌≡◌, ℕ, ◌+◌, ◌<◌, ◌^◌, true, List, [], ◌∷◌, ◌++◌, Some, slice_get, length, refl, sym, ◌∙◌, ap, arith, length-append, Text, same, Definition, Tree, CommentTree, DefinitionTree, PreambleTree, EntryTree, opening_bytes, definition_bytes, assignment_bytes, close_byte, value_bytes, bytes_before_value, equals_sign, append_assoc}
use Rattle.bib_edit.proofs.Words.{Item, Reading, Reads, IsOpenable, defines, false≢true, Field, View, view_of, start_of, OfReading, first_item, IsDefinitionAt, IsDefinitionNumber, item-ends}
use Rattle.bib_edit.proofs.FirstItems.{IsFirstItem, found_first, item-first}

abbrev pub definition_item : Definition → Text → Item
definition_item d trail = record { tree = DefinitionTree d; trail = trail }

abbrev whole : Tree → Text → Item
whole tree trail = record { tree = tree; trail = trail }

pub defining : (name : Text) (item : Item) → defines name item.tree ≡ true → (d : Definition) × (item ≡ definition_item d item.trail) × (same d.assignment.name name ≡ true)
defining name item h = of_tree item.tree item.trail h
  where
    of_tree : (tree : Tree) (trail : Text) → defines name tree ≡ true → (d : Definition) × (whole tree trail ≡ definition_item d trail) × (same d.assignment.name name ≡ true)
    of_tree (DefinitionTree d) trail h = (d, refl, h)
    of_tree (CommentTree c) trail h = absurd (false≢true h)
    of_tree (PreambleTree p) trail h = absurd (false≢true h)
    of_tree (EntryTree e) trail h = absurd (false≢true h)

-- the first item that defines the macro is a definition of it
pub first-definition : (name : Text) (db : Reading) (n : ℕ) → first_item (defines name) db.items ≡ Some n → (d : Definition) × IsDefinitionAt db.items n d × (same d.assignment.name name ≡ true)
first-definition name db n found =
    let first : IsFirstItem (defines name) db.items n = found_first (defines name) db.items n found in
    let d = defining name first.item first.passes in
    (d.0, (first.item.trail, item-first (defines name) db.items n first ∙ ap Some d.1), d.2)

-- a definition is the bytes before its value, the value, and the bytes after it
value_regroup : (o n x y v s c : Text) → o ++ (n ++ x ++ y ++ v ++ s) ++ c ≡ (o ++ n ++ x ++ y) ++ (v ++ (s ++ c))
value_regroup o n x y v s c = simp append_assoc

before_regroup : (o n x y : Text) → o ++ n ++ x ++ y ≡ o ++ (n ++ (x ++ y))
before_regroup o n x y = simp append_assoc

-- the bytes before the value, as a view counts them
abbrev before_value : Definition → Text
before_value d = opening_bytes d.opening ++ d.assignment.name ++ d.assignment.space_before_equals ++ equals_sign ∷ d.assignment.space_before_value

pub value-at : (d : Definition) → length (before_value d) ≡ length (opening_bytes d.opening ++ bytes_before_value d.assignment)
value-at d = ap length (before_regroup (opening_bytes d.opening) d.assignment.name d.assignment.space_before_equals (equals_sign ∷ d.assignment.space_before_value))

module _ (file : Text) (n : ℕ) (view : View) (fields : List Field) (is : IsOpenable file) (number : IsDefinitionNumber file n)
    (seen : OfReading file (λ db. (i : Item) → slice_get db.items n ≡ Some i → view ≡ view_of i)) (same_fields : fields ≡ view.fields) where
  -- a definition has one field
  pub name-there : (db : Reading) → Reads file db → (d : Definition) (trail : Text) → slice_get db.items n ≡ Some (definition_item d trail) → fields ≡ (view_of (definition_item d trail)).fields
  name-there db reads d trail at = same_fields ∙ ap (λ (v : View). v.fields) (seen db reads (definition_item d trail) at)

  pub name-some : fields ≡ [] → ⊥
  name-some none =
      let db = is.0 in
      let reads = is.1.reads in
      let d = number db reads in
      let one = ap (length {A = Field}) (sym (name-there db reads d.0 d.1.0 d.1.1) ∙ none) in
      omega (arith, one)

  pub name-within : (field : Field) (rest : List Field) (place : ℕ) → fields ≡ field ∷ rest → OfReading file (λ db. place ≡ start_of db n) → place + field.name_at < 2 ^ 64
  name-within field rest place head begins =
      let db = is.0 in
      let reads = is.1.reads in
      let d = number db reads in
      let ends = item-ends file db n (definition_item d.0 d.1.0) reads d.1.1 in
      let short = is.1.short in
      let start = begins db reads in
      let its : length (opening_bytes d.0.opening) ≡ field.name_at = head_name (sym (name-there db reads d.0 d.1.0 d.1.1) ∙ head) in
      let body = length-append (definition_bytes d.0) d.1.0 in
      let inner = length-append (opening_bytes d.0.opening ++ assignment_bytes d.0.assignment) (close_byte d.0.opening.delimiter ∷ []) in
      let front = length-append (opening_bytes d.0.opening) (assignment_bytes d.0.assignment) in
      omega (arith, ends, short, start, its, body, inner, front)
    where
      head_name : {f g : Field} {fs gs : List Field} → f ∷ fs ≡ g ∷ gs → f.name_at ≡ g.name_at
      head_name e = ap name_first e
        where
          name_first : List Field → ℕ
          name_first [] = 0
          name_first (f ∷ fs) = f.name_at

  pub value-within : (field : Field) (rest : List Field) (place : ℕ) → fields ≡ field ∷ rest → OfReading file (λ db. place ≡ start_of db n) → place + field.value_at < 2 ^ 64
  value-within field rest place head begins =
      let db = is.0 in
      let reads = is.1.reads in
      let d = number db reads in
      let ends = item-ends file db n (definition_item d.0 d.1.0) reads d.1.1 in
      let short = is.1.short in
      let start = begins db reads in
      let its : length (before_value d.0) ≡ field.value_at = head_value (sym (name-there db reads d.0 d.1.0 d.1.1) ∙ head) in
      let body = length-append (definition_bytes d.0) d.1.0 in
      let parts = ap length (value_regroup (opening_bytes d.0.opening) d.0.assignment.name d.0.assignment.space_before_equals (equals_sign ∷ d.0.assignment.space_before_value)
      (value_bytes d.0.assignment.value) d.0.assignment.space_after (close_byte d.0.opening.delimiter ∷ [])) in
      let inner = length-append (before_value d.0) (value_bytes d.0.assignment.value ++ (d.0.assignment.space_after ++ close_byte d.0.opening.delimiter ∷ [])) in
      omega (arith, ends, short, start, its, body, parts, inner)
    where
      head_value : {f g : Field} {fs gs : List Field} → f ∷ fs ≡ g ∷ gs → f.value_at ≡ g.value_at
      head_value e = ap value_first e
        where
          value_first : List Field → ℕ
          value_first [] = 0
          value_first (f ∷ fs) = f.value_at
