-- The units of a file have the items of the file.
use Rattle.std.proofs.Common.{◌≡◌, None, if◌then◌else◌, List, [], ◌∷◌, ◌++◌, map, refl, ◌∙◌, ap}
use Rattle.std.specs.List.{flat_map}
use Rattle.std.proofs.lemmas.List.Concat.{flat_map-append}
use Rattle.bib_spec.specs.Text.{Text, is_space, after_run}
use Rattle.bib_spec.specs.Tree.{Tree, CommentTree, DefinitionTree, PreambleTree, EntryTree, tree_bytes}
use Rattle.bib_spec.specs.Reading.{Item, Reading}
use Rattle.bib_spec.specs.Texts.{Macros, is_empty, months, macros_after}
use Rattle.bib_text.specs.Trimming.{before_run}
use Rattle.merge_spec.specs.Units.{Spaced, end_space, text_units, units_in, units_from, spaced_of, units_of}
use Rattle.bib_merge.specs.Bodies.{bodies_of, unit_bodies}

-- the bodies of a unit with the white space after it
abbrev spaced_bodies : Spaced → List Text
spaced_bodies s = unit_bodies s.unit

-- a text between items has no item
text_bodies : (macros : Macros) (t rest : Text) → after_run is_space t ≡ rest → flat_map spaced_bodies (text_units macros t) ≡ []
text_bodies macros t [] e = ap (λ r. flat_map spaced_bodies (if is_empty r then [] else record { unit = record { tree = None; text = before_run is_space r; macros = macros }; space = end_space r } ∷ [])) e
text_bodies macros t (b ∷ rest) e = ap (λ r. flat_map spaced_bodies (if is_empty r then [] else record { unit = record { tree = None; text = before_run is_space r; macros = macros }; space = end_space r } ∷ [])) e

-- the units of an item have that item alone
item_bodies : (macros : Macros) (tree : Tree) (trail : Text) → flat_map spaced_bodies (units_in macros tree trail) ≡ tree_bytes tree ∷ []
item_bodies macros (CommentTree h) trail = refl
item_bodies macros (DefinitionTree d) trail = ap (λ l. tree_bytes (DefinitionTree d) ∷ l) (text_bodies (macros_after macros (DefinitionTree d)) trail _ refl)
item_bodies macros (PreambleTree p) trail = ap (λ l. tree_bytes (PreambleTree p) ∷ l) (text_bodies macros trail _ refl)
item_bodies macros (EntryTree e) trail = ap (λ l. tree_bytes (EntryTree e) ∷ l) (text_bodies macros trail _ refl)

items_bodies : (macros : Macros) (items : List Item) → flat_map spaced_bodies (units_from macros items) ≡ map (λ i. tree_bytes i.tree) items
items_bodies macros [] = refl
items_bodies macros (item ∷ items) =
    flat_map-append spaced_bodies (units_in macros item.tree item.trail) (units_from (macros_after macros item.tree) items)
    ∙ ap (λ l. l ++ flat_map spaced_bodies (units_from (macros_after macros item.tree) items)) (item_bodies macros item.tree item.trail)
    ∙ ap (λ l. tree_bytes item.tree ∷ l) (items_bodies (macros_after macros item.tree) items)

units-without_space : (xs : List Spaced) → flat_map unit_bodies (map (λ s. s.unit) xs) ≡ flat_map spaced_bodies xs
units-without_space [] = refl
units-without_space (s ∷ xs) = ap (λ l. unit_bodies s.unit ++ l) (units-without_space xs)

-- the bodies of the units of a file are those of its items
pub units-have_items : (db : Reading) → flat_map unit_bodies (units_of db) ≡ bodies_of db
units-have_items db =
    units-without_space (spaced_of db)
    ∙ flat_map-append spaced_bodies (text_units months db.front) (units_from months db.items)
    ∙ ap (λ l. l ++ flat_map spaced_bodies (units_from months db.items)) (text_bodies months db.front _ refl)
    ∙ items_bodies months db.items
