-- The name after the at-sign of an item.
use Rattle.std.proofs.Common.{◌≡◌, ◌∙◌, ℕ, ◌≤◌, Bool, true, false, not, ◌||◌, ◌&&◌, eqb, [], ◌∷◌, ◌++◌, length, drop, nat_lt, ⊎_elim, refl, sym, ap, ap₂, append_assoc, append-nil}
use Rattle.std.specs.List.{take_while, list_any, AllPass}
use Rattle.std.proofs.lemmas.Bool.{cases_Bool, and_parts, or_parts, both_ways, not-true, eqb-true, leb-true, le-ltb}
use Rattle.std.proofs.lemmas.List.Elements.{All-head, All-tail}
use Rattle.bib_spec.specs.Bytes.{name_limit}
use Rattle.bib_spec.specs.Text.{Text, is_space, is_name_byte, is_type_byte, is_name_within, does_not_begin_with}
use Rattle.bib_spec.specs.Tree.{Head, Opening, Delimiter, Brace, Paren, Tree, CommentTree, DefinitionTree, PreambleTree, EntryTree, IsHead, IsOpening, IsSpace, IsTree, opening_bytes, open_byte, close_byte, assignment_bytes, value_bytes, after_key_bytes, tree_bytes, is_comment}
use Rattle.bib_spec.specs.Reading.{Item, IsItem}
use Rattle.bib_scan.proofs.PartLaws.{type_name_parts}
use Rattle.bib_scan.proofs.ValueLaws.{skip_space}
use Rattle.bib_scan.proofs.AgainLaws.{name_stands}
use Rattle.bib_scan.proofs.TreeAgainLaws.{type_ends}
use Rattle.bibtex_spec.specs.Plain.{is_run_byte, is_foreign, is_misnamed}
use Rattle.bibtex_plain.specs.Walking.{Follows, begins_foreign}
use Rattle.bibtex_plain.proofs.NameRuns.{judged, front-yes, front-no}

-- ---- bytes

type_runs : (b : ℕ) → is_type_byte b ≡ true → is_run_byte b ≡ true
type_runs b is = ap (λ (x : Bool). x || eqb b 127) (and_parts (is_name_byte b) (not (eqb b 64)) is).0

delete_no_name : is_name_byte 127 ≡ false
unfolding is_name_byte
delete_no_name = refl

at_name : is_name_byte 64 ≡ true
unfolding is_name_byte
at_name = refl

at_no_type : is_type_byte 64 ≡ false
at_no_type = ap (λ (x : Bool). x && not (eqb 64 64)) at_name

type_no_foreign : (b : ℕ) → is_type_byte b ≡ true → is_foreign b ≡ false
type_no_foreign b is =
    let parts = and_parts (is_name_byte b) (not (eqb b 64)) is in
    ap₂ (λ (x y : Bool). x || y) (not-true (eqb b 64) parts.1)
    (⊎_elim (λ passes. absurd (both_ways (is_name_byte b) (ap is_name_byte (eqb-true b 127 passes) ∙ delete_no_name) parts.0)) (λ fails. fails) (cases_Bool (eqb b 127)))

foreign_from : (name at del : Bool) → (name && not at) ≡ false → (name || del) ≡ true → (at || del) ≡ true
foreign_from name true del none some = refl
foreign_from false false del none some = some
foreign_from true false del none some = cc

-- a byte that goes on a run after a type name
run_foreign : (b : ℕ) → is_type_byte b ≡ false → is_run_byte b ≡ true → is_foreign b ≡ true
run_foreign b = foreign_from (is_name_byte b) (eqb b 64) (eqb b 127)

-- a byte that ends a run
end_no_foreign : (b : ℕ) → is_run_byte b ≡ false → is_foreign b ≡ false
end_no_foreign b fails =
    let parts = or_parts (is_name_byte b) (eqb b 127) fails in
    ap₂ (λ (x y : Bool). x || y)
    (⊎_elim (λ passes. absurd (both_ways (is_name_byte b) parts.0 (ap is_name_byte (eqb-true b 64 passes) ∙ at_name))) (λ none. none) (cases_Bool (eqb b 64)))
    parts.1

space_no_foreign : (b : ℕ) → is_space b ≡ true → is_foreign b ≡ false
unfolding is_space
space_no_foreign b is =
    ap₂ (λ (x y : Bool). x || y)
    (⊎_elim (λ passes. absurd (both_ways (is_space b) (ap is_space (eqb-true b 64 passes)) is)) (λ none. none) (cases_Bool (eqb b 64)))
    (⊎_elim (λ passes. absurd (both_ways (is_space b) (ap is_space (eqb-true b 127 passes)) is)) (λ none. none) (cases_Bool (eqb b 127)))

open_no_foreign : (d : Delimiter) → is_foreign (open_byte d) ≡ false
open_no_foreign Brace = refl
open_no_foreign Paren = refl

-- ---- type names

run_name : (t x : Text) → AllPass is_type_byte t → take_while is_run_byte (t ++ x) ≡ t ++ take_while is_run_byte x
run_name [] x all = refl
run_name (b ∷ t) x all =
    front-yes is_run_byte b (t ++ x) (type_runs b (All-head (λ (y : ℕ). is_type_byte y ≡ true) b t all))
    ∙ ap (λ (u : Text). b ∷ u) (run_name t x (All-tail (λ (y : ℕ). is_type_byte y ≡ true) b t all))

foreign_name : (t u : Text) → AllPass is_type_byte t → list_any is_foreign (t ++ u) ≡ list_any is_foreign u
foreign_name [] u all = refl
foreign_name (b ∷ t) u all =
    ap (λ (x : Bool). x || list_any is_foreign (t ++ u)) (type_no_foreign b (All-head (λ (y : ℕ). is_type_byte y ≡ true) b t all))
    ∙ foreign_name t u (All-tail (λ (y : ℕ). is_type_byte y ≡ true) b t all)

within_limit : (t : Text) → is_name_within name_limit t ≡ true → length t ≤ name_limit
unfolding is_name_within
within_limit t is = leb-true (length t) name_limit (and_parts (nat_lt 0 (length t)) _ (and_parts _ _ (and_parts _ _ is).0).0).1

-- a type name alone is a name of the dialect
name_alone : (t : Text) → AllPass is_type_byte t → length t ≤ name_limit → judged (t ++ []) ≡ false
name_alone t all short =
    ap judged (append-nil t)
    ∙ ap₂ (λ (x y : Bool). x || y) (ap (list_any is_foreign) (sym (append-nil t)) ∙ foreign_name t [] all) (le-ltb name_limit (length t) short)

name_judged : (t x : Text) → AllPass is_type_byte t → length t ≤ name_limit → does_not_begin_with is_type_byte x ≡ true → judged (t ++ take_while is_run_byte x) ≡ begins_foreign x
name_judged t [] all short ends = name_alone t all short
name_judged t (b ∷ x) all short ends = ⊎_elim
    (λ passes.
    let foreign = run_foreign b (not-true (is_type_byte b) ends) passes in
    ap (λ (u : Text). judged (t ++ u)) (front-yes is_run_byte b x passes)
    ∙ ap (λ (y : Bool). y || nat_lt name_limit (length (t ++ b ∷ take_while is_run_byte x)))
    (foreign_name t (b ∷ take_while is_run_byte x) all ∙ ap (λ (y : Bool). y || list_any is_foreign (take_while is_run_byte x)) foreign)
    ∙ sym foreign)
    (λ fails. ap (λ (u : Text). judged (t ++ u)) (front-no is_run_byte b x fails) ∙ name_alone t all short ∙ sym (end_no_foreign b fails))
    (cases_Bool (is_run_byte b))

-- ---- heads

head_named : (h : Head) (x : Text) → IsHead h → does_not_begin_with is_type_byte x ≡ true → is_misnamed ((h.space_before_type ++ h.type_name) ++ x) ≡ begins_foreign x
head_named h x is ends =
    let parts = type_name_parts h.type_name is.type_name in
    ap is_misnamed (append_assoc h.space_before_type h.type_name x)
    ∙ ap judged (ap (take_while is_run_byte) (skip_space h.space_before_type (h.type_name ++ x) is.space_before_type (name_stands name_limit h.type_name x parts.0)) ∙ run_name h.type_name x parts.1)
    ∙ name_judged h.type_name x parts.1 (within_limit h.type_name parts.0) ends

begins_open : (s : Text) (d : Delimiter) (x : Text) → IsSpace s → begins_foreign (s ++ open_byte d ∷ x) ≡ false
begins_open [] d x all = open_no_foreign d
begins_open (b ∷ s) d x all = space_no_foreign b (All-head (λ (y : ℕ). is_space y ≡ true) b s all)

-- an item that is opened has a type name of the dialect
opened : (o : Opening) (w : Text) → IsOpening o → is_misnamed (drop 1 (opening_bytes o) ++ w) ≡ false
opened o w is =
    let h = o.head in
    let s = o.space_before_delimiter in
    let name : Text = h.space_before_type ++ h.type_name in
    let inside : Text = o.space_after ++ w in
    ap is_misnamed (append_assoc (name ++ s) (open_byte o.delimiter ∷ o.space_after) w ∙ append_assoc name s (open_byte o.delimiter ∷ inside))
    ∙ head_named h (s ++ open_byte o.delimiter ∷ inside) is.head (type_ends s o.delimiter inside is.space_before_delimiter)
    ∙ begins_open s o.delimiter inside is.space_before_delimiter

-- a text after an opening and two more
three : (o : Opening) (a b x : Text) → IsOpening o → is_misnamed (((drop 1 (opening_bytes o) ++ a) ++ b) ++ x) ≡ false
three o a b x is =
    ap is_misnamed (append_assoc (drop 1 (opening_bytes o) ++ a) b x ∙ append_assoc (drop 1 (opening_bytes o)) a (b ++ x)) ∙ opened o (a ++ (b ++ x)) is

tree_named : (tree : Tree) (x : Text) → IsTree name_limit tree → (is_comment tree ≡ true → does_not_begin_with is_type_byte x ≡ true)
    → is_misnamed (drop 1 (tree_bytes tree) ++ x) ≡ (is_comment tree && begins_foreign x)
tree_named (CommentTree h) x is ends = head_named h x is.head (ends refl)
tree_named (DefinitionTree d) x is ends = three d.opening (assignment_bytes d.assignment) (close_byte d.opening.delimiter ∷ []) x is.opening
tree_named (PreambleTree p) x is ends =
    ap is_misnamed (append_assoc ((drop 1 (opening_bytes p.opening) ++ value_bytes p.value) ++ p.space_after) (close_byte p.opening.delimiter ∷ []) x)
    ∙ three p.opening (value_bytes p.value) p.space_after (close_byte p.opening.delimiter ∷ x) is.opening
tree_named (EntryTree e) x is ends = three e.opening e.key (after_key_bytes e) x is.opening

-- what follows a trail that ends a type name
trail_ends : (trail more : Text) (followed : Bool) → does_not_begin_with is_type_byte trail ≡ true → Follows followed more → does_not_begin_with is_type_byte (trail ++ more) ≡ true
trail_ends (b ∷ trail) more followed ends follows = ends
trail_ends [] more false ends follows = ap (does_not_begin_with is_type_byte) follows
trail_ends [] more true ends follows = ap (does_not_begin_with is_type_byte) follows.1 ∙ ap not at_no_type

pub item_named : (i : Item) (more : Text) (followed : Bool) → IsItem name_limit i → Follows followed more
    → is_misnamed (drop 1 (tree_bytes i.tree) ++ (i.trail ++ more)) ≡ (is_comment i.tree && begins_foreign (i.trail ++ more))
item_named i more followed is follows = tree_named i.tree (i.trail ++ more) is.tree (λ comment. trail_ends i.trail more followed (is.trail.ends_name comment) follows)
