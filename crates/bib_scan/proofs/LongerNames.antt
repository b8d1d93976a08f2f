-- Trees of the grammar with names and keys up to a limit are trees of the grammar with a higher limit, too.
use Rattle.bib_scan.proofs.Words.{ℕ, ◌≤◌, List, [], ◌∷◌, arith, All-nil, All-cons, All-head, All-tail, All, Text, is_name_within, Part, Braced, Quoted, Macro, Link, Value, Assignment, Row, Tree, CommentTree, DefinitionTree, PreambleTree, EntryTree, IsPart, IsLink, IsValue, IsAssignment, IsRow}
use Rattle.bib_scan.proofs.Words.{IsTree, Item, IsItem}
use Rattle.std.specs.Prelude.{IsTrue}
use Rattle.bib_spec.specs.Tree.{Digits}
use Rattle.bib_scan.proofs.PartLaws.{name_parts, name_from}

module _ (limit m : ℕ) (longer : limit ≤ m) where
  longer_all : {A : Type 0} (P Q : A → Type 0) → ((x : A) → P x → Q x) → (xs : List A) → All P xs → All Q xs
  longer_all P Q each [] all = All-nil Q
  longer_all P Q each (x ∷ xs) all = All-cons Q x xs (each x (All-head P x xs all)) (longer_all P Q each xs (All-tail P x xs all))

  longer_name : (t : Text) → IsTrue (is_name_within limit t) → IsTrue (is_name_within m t)
  longer_name t is =
      let n = name_parts limit t is in
      name_from m t (record { some = n.some; short = omega (arith, n.short, longer); first = n.first; bytes = n.bytes })

  longer_part : (p : Part) → IsPart limit p → IsPart m p
  longer_part (Braced t) is = is
  longer_part (Quoted t) is = is
  longer_part (Digits t) is = is
  longer_part (Macro t) is = longer_name t is

  longer_link : (l : Link) → IsLink limit l → IsLink m l
  longer_link l is = record { space_before_hash = is.space_before_hash; space_after_hash = is.space_after_hash; part = longer_part l.part is.part }

  longer_value : (v : Value) → IsValue limit v → IsValue m v
  longer_value v is = record { first = longer_part v.first is.first; links = longer_all (IsLink limit) (IsLink m) longer_link v.links is.links }

  longer_assignment : (a : Assignment) → IsAssignment limit a → IsAssignment m a
  longer_assignment a is = record {
    name = longer_name a.name is.name;
    space_before_equals = is.space_before_equals;
    space_before_value = is.space_before_value;
    value = longer_value a.value is.value;
    space_after = is.space_after;
  }

  longer_row : (r : Row) → IsRow limit r → IsRow m r
  longer_row r is = record { space_before_name = is.space_before_name; assignment = longer_assignment r.assignment is.assignment }

  pub longer_tree : (tree : Tree) → IsTree limit tree → IsTree m tree
  longer_tree (CommentTree h) is = is
  longer_tree (DefinitionTree d) is = record { opening = is.opening; type_name = is.type_name; assignment = longer_assignment d.assignment is.assignment }
  longer_tree (PreambleTree p) is = record { opening = is.opening; type_name = is.type_name; value = longer_value p.value is.value; space_after = is.space_after }
  longer_tree (EntryTree e) is = record {
    opening = is.opening;
    type_name = is.type_name;
    key = is.key;
    key_len = omega (arith, is.key_len, longer);
    key_ends = is.key_ends;
    space_after_key = is.space_after_key;
    empty_key = is.empty_key;
    rows = longer_all (IsRow limit) (IsRow m) longer_row e.rows is.rows;
    last_comma = is.last_comma;
  }

  pub longer_item : (i : Item) → IsItem limit i → IsItem m i
  longer_item i is = record { tree = longer_tree i.tree is.tree; trail = is.trail }
