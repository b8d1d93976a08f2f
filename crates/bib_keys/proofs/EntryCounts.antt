-- A file has no more entries than bytes.
use Rattle.bib_keys.proofs.Words.{◌≤◌, List, [], ◌∷◌, length, arith, length-append, Reading, entries_of}
use Rattle.std.specs.List.{flat_map}
use Rattle.bib_spec.specs.Tree.{Tree, CommentTree, DefinitionTree, PreambleTree, EntryTree, tree_bytes}
use Rattle.bib_spec.specs.Reading.{Item, item_bytes, bytes_of}
use Rattle.bib_spec.specs.Texts.{Macros, months, macros_after, gathered}
use Rattle.bib_spec.specs.Records.{entry_in}

few_entries : (m : Macros) (items : List Item) → length (gathered entry_in m items) ≤ length (flat_map item_bytes items)
few_entries m [] = omega arith
few_entries m (item ∷ items) =
    let rest = few_entries (macros_after m item.tree) items in
    let one = entry_long item.tree in
    let long = length-append (entry_in m item.tree) (gathered entry_in (macros_after m item.tree) items) in
    let bytes = length-append (item_bytes item) (flat_map item_bytes items) in
    let body = length-append (tree_bytes item.tree) item.trail in
    omega (arith, rest, one, long, bytes, body)
  where
    entry_long : (tree : Tree) → length (entry_in m tree) ≤ length (tree_bytes tree)
    entry_long (CommentTree h) = omega arith
    entry_long (DefinitionTree d) = omega arith
    entry_long (PreambleTree p) = omega arith
    entry_long (EntryTree e) = omega arith

pub few-entries : (db : Reading) → length (entries_of db) ≤ length (bytes_of db)
few-entries db =
    let few = few_entries months db.items in
    let long = length-append db.front (flat_map item_bytes db.items) in
    omega (arith, few, long)
