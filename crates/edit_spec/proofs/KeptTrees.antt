-- A tree in which a change of names and parts finds nothing to change.
use Rattle.edit_spec.proofs.Words.{◌≡◌, Bool, false, List, ◌∷◌, Option, None, unwrap_or, map, refl, ap, ap₂, list_any, or_parts, Text, Part, Link, Value, Assignment, Row, Definition, Preamble, Entry, Tree, CommentTree, DefinitionTree, PreambleTree, EntryTree, parts_of, any_part, changed, link_with}
use Rattle.edit_spec.proofs.Words.{value_with, assignment_with, row_with, tree_with, leaving}
use Rattle.std.proofs.Common.{[]}
use Rattle.std.specs.Prelude.{⊤}

-- the tree's defined name, if it has one, is left
abbrev pub IsNameLeft : (Text → Option Text) → Tree → Type 0
IsNameLeft names (DefinitionTree d) = names d.assignment.name ≡ None
IsNameLeft names (CommentTree h) = ⊤
IsNameLeft names (PreambleTree p) = ⊤
IsNameLeft names (EntryTree e) = ⊤

pub leaving-leaves : (tree : Tree) → IsNameLeft leaving tree
leaving-leaves (DefinitionTree d) = refl
leaving-leaves (CommentTree h) = tt
leaving-leaves (PreambleTree p) = tt
leaving-leaves (EntryTree e) = tt

module _ (names : Text → Option Text) (parts : Part → Option Part) (test : Part → Bool) (leaves : (part : Part) → test part ≡ false → parts part ≡ None) where
  part-left : (part : Part) → test part ≡ false → changed parts part ≡ part
  part-left part h = ap (λ o. unwrap_or o part) (leaves part h)

  links-left : (links : List Link) → list_any test (map (λ l. l.part) links) ≡ false → map (link_with parts) links ≡ links
  links-left [] h = refl
  links-left (l ∷ links) h =
      let both = or_parts (test l.part) (list_any test (map (λ l. l.part) links)) h in
      ap₂ ◌∷◌ (ap (λ (part : Part). let it : Link = record l { part = part } in it) (part-left l.part both.0)) (links-left links both.1)

  value-left : (v : Value) → list_any test (parts_of v) ≡ false → value_with parts v ≡ v
  value-left v h =
      let both = or_parts (test v.first) (list_any test (map (λ l. l.part) v.links)) h in
      ap₂ (λ (first : Part) (links : List Link). let it : Value = record v { first = first; links = links } in it) (part-left v.first both.0) (links-left v.links both.1)

  assignment-left : (a : Assignment) → list_any test (parts_of a.value) ≡ false → assignment_with parts a ≡ a
  assignment-left a h = ap (λ (v : Value). let it : Assignment = record a { value = v } in it) (value-left a.value h)

  rows-left : (rows : List Row) → list_any (λ v. list_any test (parts_of v)) (map (λ row. row.assignment.value) rows) ≡ false → map (row_with parts) rows ≡ rows
  rows-left [] h = refl
  rows-left (row ∷ rows) h =
      let both = or_parts (list_any test (parts_of row.assignment.value)) (list_any (λ v. list_any test (parts_of v)) (map (λ row. row.assignment.value) rows)) h in
      ap₂ ◌∷◌ (ap (λ (a : Assignment). let it : Row = record row { assignment = a } in it) (assignment-left row.assignment both.0)) (rows-left rows both.1)

  -- the tree stays as it is
  pub tree-left : (tree : Tree) → IsNameLeft names tree → any_part test tree ≡ false → tree_with names parts tree ≡ tree
  tree-left (CommentTree h) named unused = refl
  tree-left (DefinitionTree d) named unused =
      ap₂ (λ (name : Text) (a : Assignment). let it : Definition = record d { assignment = record a { name = name } } in DefinitionTree it)
      (ap (λ o. unwrap_or o d.assignment.name) named) (assignment-left d.assignment (or_parts (list_any test (parts_of d.assignment.value)) false unused).0)
  tree-left (PreambleTree p) named unused =
      ap (λ (v : Value). let it : Preamble = record p { value = v } in PreambleTree it) (value-left p.value (or_parts (list_any test (parts_of p.value)) false unused).0)
  tree-left (EntryTree e) named unused = ap (λ (rows : List Row). let it : Entry = record e { rows = rows } in EntryTree it) (rows-left e.rows unused)
