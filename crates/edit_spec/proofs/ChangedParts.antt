-- RenameMacro, IntroduceMacro and InlineMacro: a tree with its names and parts changed is a tree.
use Rattle.edit_spec.proofs.Words.{◌≡◌, ◌&&◌, true, List, ◌∷◌, Option, Some, unwrap_or, length, map, All, codes, ⊎_elim, refl, sym, subst, and_parts, none-some, cond_some, All-nil, All-cons, All-head, All-tail, name_limit, Text, same, is_name, is_name_byte, is_name_within, is_type_name, IsBalanced}
use Rattle.edit_spec.proofs.Words.{Part, Braced, Quoted, Digits, Macro, Link, Value, Assignment, Row, Delimiter, Tree, CommentTree, DefinitionTree, PreambleTree, EntryTree, is_comment, IsSpace, IsPart, IsLink, IsValue, IsRow, IsTree, Item, Reading, bytes_of, IsItem, Reads, seen, Record, holds}
use Rattle.edit_spec.proofs.Words.{any_part, RenameMacro, InlineMacro, IntroduceMacro, WouldMerge, changed, link_with, value_with, assignment_with, row_with, tree_with, item_with, items_with, leaving, defines, from_first, in_line, in_braces, name_renamed, use_renamed, rename_macro, use_inlined}
use Rattle.edit_spec.proofs.Words.{uses_inlined, text_of_macro, inline_macro, definition_as, definition_of, part_introduced, introduced, introduce_macro, IsAccepted, option_cases}
use Rattle.std.proofs.Common.{[]}
use Rattle.bib_spec.specs.Tree.{IsAssignment, IsDefinition}
use Rattle.edit_spec.proofs.Balanced.{empty_balanced, macros-balance}
use Rattle.edit_spec.proofs.Unrefuted.{unrefuted_texts, given_names-are, given_values-are}
use Rattle.edit_spec.proofs.WrittenRows.{no_space, one_space, EndsKey, ends_at_row, are_rows, entry-is}
use Rattle.edit_spec.proofs.EditedItems.{AreItems, made_reads, trees_of, clean_reads, item_as, in_line-is, from_first-are, without_first-are}

module _ (names : Text → Option Text) (parts : Part → Option Part)
    (names_are : (old new : Text) → names old ≡ Some new → is_name new ≡ true)
    (parts_are : (old new : Part) → parts old ≡ Some new → IsPart name_limit new)
  where
    name_changed : (name : Text) → is_name name ≡ true → is_name (changed names name) ≡ true
    name_changed name is = ⊎_elim
        (λ none. subst (λ o. is_name (unwrap_or o name) ≡ true) (sym none) is)
        (λ some. subst (λ o. is_name (unwrap_or o name) ≡ true) (sym some.1) (names_are name some.0 some.1))
        (option_cases (names name))

    part_changed : (part : Part) → IsPart name_limit part → IsPart name_limit (changed parts part)
    part_changed part is = ⊎_elim
        (λ none. subst (λ o. IsPart name_limit (unwrap_or o part)) (sym none) is)
        (λ some. subst (λ o. IsPart name_limit (unwrap_or o part)) (sym some.1) (parts_are part some.0 some.1))
        (option_cases (parts part))

    links_changed : (links : List Link) → All (IsLink name_limit) links → All (IsLink name_limit) (map (link_with parts) links)
    links_changed [] are = All-nil (IsLink name_limit)
    links_changed (l ∷ links) are =
        let is = All-head (IsLink name_limit) l links are in
        All-cons (IsLink name_limit) (link_with parts l) (map (link_with parts) links)
        (record { space_before_hash = is.space_before_hash; space_after_hash = is.space_after_hash; part = part_changed l.part is.part })
        (links_changed links (All-tail (IsLink name_limit) l links are))

    value_changed : (v : Value) → IsValue name_limit v → IsValue name_limit (value_with parts v)
    value_changed v is = record { first = part_changed v.first is.first; links = links_changed v.links is.links }

    assignment_changed : (a : Assignment) → IsAssignment name_limit a → IsAssignment name_limit (assignment_with parts a)
    assignment_changed a is = record {
      name = is.name;
      space_before_equals = is.space_before_equals;
      space_before_value = is.space_before_value;
      value = value_changed a.value is.value;
      space_after = is.space_after;
    }

    rows_changed : (rows : List Row) → All (IsRow name_limit) rows → All (IsRow name_limit) (map (row_with parts) rows)
    rows_changed [] are = All-nil (IsRow name_limit)
    rows_changed (row ∷ rows) are =
        let is = All-head (IsRow name_limit) row rows are in
        All-cons (IsRow name_limit) (row_with parts row) (map (row_with parts) rows)
        (record { space_before_name = is.space_before_name; assignment = assignment_changed row.assignment is.assignment })
        (rows_changed rows (All-tail (IsRow name_limit) row rows are))

    ends_changed : (d : Delimiter) (space : Text) (rows : List Row) (last : Option Text) → IsSpace space → EndsKey d space rows last → EndsKey d space (map (row_with parts) rows) last
    ends_changed d space [] last s ends = ends
    ends_changed d space (row ∷ rows) last s ends = ends_at_row d space (row_with parts row) (map (row_with parts) rows) last s

    tree_changed : (tree : Tree) → IsTree name_limit tree → IsTree name_limit (tree_with names parts tree)
    tree_changed (CommentTree h) is = is
    tree_changed (DefinitionTree d) is = record {
      opening = is.opening;
      type_name = is.type_name;
      assignment = record {
        name = name_changed d.assignment.name is.assignment.name;
        space_before_equals = is.assignment.space_before_equals;
        space_before_value = is.assignment.space_before_value;
        value = value_changed d.assignment.value is.assignment.value;
        space_after = is.assignment.space_after;
      };
    }
    tree_changed (PreambleTree p) is = record { opening = is.opening; type_name = is.type_name; value = value_changed p.value is.value; space_after = is.space_after }
    tree_changed (EntryTree e) is =
        entry-is e e.key e.space_after_key (map (row_with parts) e.rows) is is.key is.key_len is.empty_key
        (are_rows e.space_after_key (map (row_with parts) e.rows) is.space_after_key (rows_changed e.rows is.rows))
        (ends_changed e.opening.delimiter e.space_after_key e.rows e.last_comma is.space_after_key is.key_ends)

    comment_changed : (tree : Tree) → is_comment (tree_with names parts tree) ≡ is_comment tree
    comment_changed (CommentTree h) = refl
    comment_changed (DefinitionTree d) = refl
    comment_changed (PreambleTree p) = refl
    comment_changed (EntryTree e) = refl

    items_changed : (items : List Item) → AreItems items → AreItems (items_with names parts items)
    items_changed [] are = All-nil (IsItem name_limit)
    items_changed (item ∷ items) are =
        let is = All-head (IsItem name_limit) item items are in
        All-cons (IsItem name_limit) (item_with names parts item) (items_with names parts items)
        (item_as item (tree_with names parts item.tree) is (tree_changed item.tree is.tree) (comment_changed item.tree))
        (items_changed items (All-tail (IsItem name_limit) item items are))

no_names : (old new : Text) → leaving old ≡ Some new → is_name new ≡ true
no_names old new e = absurd (none-some new e)

-- ---- renaming a macro

module _ (from to : Text) (named : is_name to ≡ true) where
  renamed_name : (old new : Text) → name_renamed from to old ≡ Some new → is_name new ≡ true
  renamed_name old new e = subst (λ t. is_name t ≡ true) (cond_some (same old from) to new e).1 named

  renamed_part : (old new : Part) → use_renamed from to old ≡ Some new → IsPart name_limit new
  renamed_part (Macro name) new e = subst (IsPart name_limit) (cond_some (same name from) (Macro to) new e).1 named
  renamed_part (Braced t) new e = absurd (none-some new e)
  renamed_part (Quoted t) new e = absurd (none-some new e)
  renamed_part (Digits t) new e = absurd (none-some new e)

pub rename_macro-reads : (key_base : Record → Text) (file : Text) (db : Reading) (from to : Text) → Reads file db → IsAccepted key_base db (RenameMacro from to) →
    Reads (bytes_of (rename_macro from to db)) (rename_macro from to db)
rename_macro-reads key_base file db from to reads accepted =
    made_reads (rename_macro from to db) reads.front
    (from_first-are (defines from) (IsItem name_limit) (items_with (name_renamed from to) (use_renamed from to))
    (λ item items defined are. items_changed (name_renamed from to) (use_renamed from to) (renamed_name from to named) (renamed_part from to named) (item ∷ items) are) db.items reads.items)
  where
    named : is_name to ≡ true
    named = (and_parts (is_name to) true (and_parts (is_name from) (is_name to && true) (given_names-are key_base db (RenameMacro from to) accepted)).1).0

-- ---- introducing a macro

introduced_part : (name text : Text) → is_name name ≡ true → (old new : Part) → part_introduced name text old ≡ Some new → IsPart name_limit new
introduced_part name text named old new e = subst (IsPart name_limit) (cond_some (holds text old) (Macro name) new e).1 named

string_type : is_type_name (codes "string") ≡ true
unfolding is_name_within is_name_byte
string_type = refl

pub new_definition : (name : Text) (value : Value) → is_name name ≡ true → IsValue name_limit value → IsDefinition name_limit (definition_as name value)
new_definition name value named is = record {
  opening = record { head = record { space_before_type = no_space; type_name = string_type }; space_before_delimiter = no_space; space_after = no_space };
  type_name = refl;
  assignment = record { name = named; space_before_equals = one_space; space_before_value = one_space; value = is; space_after = no_space };
}

pub introduce_macro-reads : (key_base : Record → Text) (file : Text) (db : Reading) (name text : Text) → Reads file db → IsAccepted key_base db (IntroduceMacro name text) →
    Reads (bytes_of (introduce_macro name text db)) (introduce_macro name text db)
introduce_macro-reads key_base file db name text reads accepted =
    made_reads (introduce_macro name text db) reads.front
    (from_first-are (any_part (holds text)) (IsItem name_limit) (introduced name text)
    (λ item items held are. All-cons (IsItem name_limit) (in_line (DefinitionTree (definition_of name text))) (items_with leaving (part_introduced name text) (item ∷ items))
    (in_line-is (DefinitionTree (definition_of name text)) (new_definition name (in_braces text) named
    (All-head (IsValue name_limit) (in_braces text) [] (given_values-are key_base db (IntroduceMacro name text) accepted))))
    (items_changed leaving (part_introduced name text) no_names (introduced_part name text named) (item ∷ items) are)) db.items reads.items)
  where
    named : is_name name ≡ true
    named = (and_parts (is_name name) true (given_names-are key_base db (IntroduceMacro name text) accepted)).0

-- ---- inlining a macro

inlined_part : (name text : Text) → IsBalanced text → (old new : Part) → use_inlined name text old ≡ Some new → IsPart name_limit new
inlined_part name text balanced (Macro used) new e = subst (IsPart name_limit) (cond_some (same used name) (Braced text) new e).1 balanced
inlined_part name text balanced (Braced t) new e = absurd (none-some new e)
inlined_part name text balanced (Quoted t) new e = absurd (none-some new e)
inlined_part name text balanced (Digits t) new e = absurd (none-some new e)

macro_text-balanced : (file : Text) (db : Reading) (name : Text) → Reads file db → IsBalanced (text_of_macro name db)
macro_text-balanced file db name reads = ⊎_elim
    (λ none. subst (λ o. IsBalanced (unwrap_or o [])) (sym none) empty_balanced)
    (λ some. subst (λ o. IsBalanced (unwrap_or o [])) (sym some.1) (macros-balance file db reads (length db.items) name some.0 some.1))
    (option_cases (seen db (length db.items) name))

pub inline_macro-reads : (key_base : Record → Text) (file : Text) (db : Reading) (name : Text) → Reads file db → IsAccepted key_base db (InlineMacro name) →
    Reads (bytes_of (inline_macro name db)) (inline_macro name db)
inline_macro-reads key_base file db name reads accepted =
    let text = text_of_macro name db in
    let inlined = from_first (defines name) (uses_inlined name text) db.items in
    clean_reads (inline_macro name db)
    (without_first-are (defines name) db.front inlined (trees_of inlined
    (from_first-are (defines name) (IsItem name_limit) (uses_inlined name text)
    (λ item items defined are. All-cons (IsItem name_limit) item (items_with leaving (use_inlined name text) items) (All-head (IsItem name_limit) item items are)
    (items_changed leaving (use_inlined name text) no_names (inlined_part name text (macro_text-balanced file db name reads)) items (All-tail (IsItem name_limit) item items are))) db.items reads.items)))
    (unrefuted_texts (inline_macro name db) (accepted WouldMerge))
