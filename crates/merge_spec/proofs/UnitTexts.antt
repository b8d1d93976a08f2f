-- The units of a file, with the white space after each, are the file.
use Rattle.std.proofs.Common.{◌≡◌, not, None, if◌then◌else◌, List, [], ◌∷◌, ◌++◌, refl, sym, ◌∙◌, ap, append_assoc, append-nil}
use Rattle.std.specs.List.{flat_map, prefix_len}
use Rattle.std.proofs.lemmas.List.{take-append-drop}
use Rattle.std.proofs.lemmas.List.Concat.{flat_map-append}
use Rattle.bib_spec.specs.Text.{Text, is_space, after_run}
use Rattle.bib_spec.specs.Tree.{Tree, CommentTree, DefinitionTree, PreambleTree, EntryTree, tree_bytes, head_bytes}
use Rattle.bib_spec.specs.Reading.{Item, item_bytes}
use Rattle.bib_spec.specs.Texts.{Macros, is_empty, months, macros_after}
use Rattle.bib_text.specs.Trimming.{up_to_last, before_run}
use Rattle.merge_spec.specs.Units.{Spaced, spaced_bytes, front_space, end_space, text_units, units_in, units_from}
use Rattle.merge_spec.specs.Laws.{units_are_the_file}

-- a text is what its white space at the end is taken from, and that white space
cut_end : (t : Text) → before_run is_space t ++ end_space t ≡ t
cut_end t = take-append-drop (up_to_last (λ b. not (is_space b)) t) t

-- the units of the rest of a text are the rest
rest_units : (macros : Macros) (t rest : Text) → after_run is_space t ≡ rest → flat_map spaced_bytes (text_units macros t) ≡ rest
rest_units macros t [] e = ap (λ r. flat_map spaced_bytes (units_with r)) e
  where
    units_with : Text → List Spaced
    units_with r = if is_empty r then [] else record { unit = record { tree = None; text = before_run is_space r; macros = macros }; space = end_space r } ∷ []
rest_units macros t (b ∷ rest) e = ap (λ r. flat_map spaced_bytes (units_with r)) e ∙ append-nil _ ∙ cut_end (b ∷ rest)
  where
    units_with : Text → List Spaced
    units_with r = if is_empty r then [] else record { unit = record { tree = None; text = before_run is_space r; macros = macros }; space = end_space r } ∷ []

-- a text is its white space at the front, and its unit
text_joins : (macros : Macros) (t : Text) → front_space t ++ flat_map spaced_bytes (text_units macros t) ≡ t
text_joins macros t = ap (λ l. front_space t ++ l) (rest_units macros t (after_run is_space t) refl) ∙ take-append-drop (prefix_len is_space t) t

-- an item that is no comment, and the text after it
item_joins : (macros : Macros) (body trail : Text) → ((body ++ []) ++ front_space trail) ++ flat_map spaced_bytes (text_units macros trail) ≡ body ++ trail
item_joins macros body trail =
    ap (λ l. (l ++ front_space trail) ++ flat_map spaced_bytes (text_units macros trail)) (append-nil body)
    ∙ append_assoc body (front_space trail) (flat_map spaced_bytes (text_units macros trail))
    ∙ ap (λ l. body ++ l) (text_joins macros trail)

-- the units of an item are the item with its trail
units_in-join : (macros : Macros) (tree : Tree) (trail : Text) → flat_map spaced_bytes (units_in macros tree trail) ≡ tree_bytes tree ++ trail
units_in-join macros (CommentTree h) trail =
    append-nil ((head_bytes h ++ before_run is_space trail) ++ end_space trail)
    ∙ append_assoc (head_bytes h) (before_run is_space trail) (end_space trail)
    ∙ ap (λ l. head_bytes h ++ l) (cut_end trail)
units_in-join macros (DefinitionTree d) trail = item_joins (macros_after macros (DefinitionTree d)) (tree_bytes (DefinitionTree d)) trail
units_in-join macros (PreambleTree p) trail = item_joins macros (tree_bytes (PreambleTree p)) trail
units_in-join macros (EntryTree e) trail = item_joins macros (tree_bytes (EntryTree e)) trail

units_from-join : (macros : Macros) (items : List Item) → flat_map spaced_bytes (units_from macros items) ≡ flat_map item_bytes items
units_from-join macros [] = refl
units_from-join macros (item ∷ items) =
    flat_map-append spaced_bytes (units_in macros item.tree item.trail) (units_from (macros_after macros item.tree) items)
    ∙ ap (λ l. l ++ flat_map spaced_bytes (units_from (macros_after macros item.tree) items)) (units_in-join macros item.tree item.trail)
    ∙ ap (λ l. (tree_bytes item.tree ++ item.trail) ++ l) (units_from-join (macros_after macros item.tree) items)

pub units-are_the_file : units_are_the_file
units-are_the_file db =
    ap (λ l. front_space db.front ++ l) (flat_map-append spaced_bytes (text_units months db.front) (units_from months db.items))
    ∙ sym (append_assoc (front_space db.front) (flat_map spaced_bytes (text_units months db.front)) (flat_map spaced_bytes (units_from months db.items)))
    ∙ ap (λ l. l ++ flat_map spaced_bytes (units_from months db.items)) (text_joins months db.front)
    ∙ ap (λ l. db.front ++ l) (units_from-join months db.items)
