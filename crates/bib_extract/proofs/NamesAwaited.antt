-- The names that are still to be defined, as items are passed from the last to the first.
use Rattle.std.proofs.Common.{◌≡◌, ℕ, zero, suc, ◌+◌, ◌||◌, if◌then◌else◌, Bool, true, false, not, List, [], ◌∷◌, ◌++◌, Option, None, Some, is_some, map, slice_get, length, bytes_eq, drop, All, ⊎_elim, refl, sym, ◌∙◌, ap, subst, append-nil, ◌≤◌}
use Rattle.std.proofs.lemmas.List.{drop_all}
use Rattle.std.proofs.lemmas.Option.{none-some, same_Some}
use Rattle.bib_extract.proofs.WrittenItems.{drop-next}
use Rattle.bib_spec.specs.Reading.{IsValueWithin}
use Rattle.std.specs.Borrow.{Bor}
use Rattle.std.specs.Option.{option_copied}
use Rattle.std.specs.List.{flat_map, list_any}
use Rattle.std.proofs.lemmas.Bool.{cases_Bool, cond-true, cond-false, false≢true}
use Rattle.std.proofs.lemmas.List.Elements.{All-head, All-tail}
use Rattle.std.proofs.lemmas.List.Folds.{list_any-append}
use Rattle.bib_spec.specs.Bytes.{name_limit}
use Rattle.bib_spec.specs.Text.{Text, folded, same}
use Rattle.bib_spec.specs.Tree.{Part, Macro, Value, Link, IsLink, Row, Tree, CommentTree, DefinitionTree, PreambleTree, EntryTree, IsTree, IsRow, IsValue, IsPart, row_bytes, opening_bytes}
use Rattle.bib_spec.specs.Texts.{parts_of, values_of}
use Rattle.bib_spec.proofs.Names.{eq-true}
use Rattle.bib_scan.specs.declared.view.Kind.TheVariants as kind
use Rattle.bib_scan.specs.View.{kind_of, Field, fields_after, fields_of}
use Rattle.bib_value.specs.Raw.{OfValue}
use Rattle.folded_map.specs.FoldedMap.{value_at, IsWith, IsWithout}
use Rattle.extract_spec.specs.Extract.{name_in, names_in, without, without_defined, names_before, stays}
use Rattle.bib_extract.specs.Awaited.{Map, has, HasNames, Gains, GainsFrom, HaveValues}

-- ---- one name

-- a name comes
pub gains-name : (name : Text) (old new : Map) → IsWith old name true new → Gains (name ∷ []) old new
gains-name name old new with x = ap is_some (with (folded x)) ∙ either (same x name) (has old x)
  where
    either : (b c : Bool) → is_some (if b then Some true else value_at old (folded x)) ≡ ((b || false) || has old x)
    either true c = refl
    either false c = refl

-- nothing comes
pub gains-nothing : (old new : Map) → new ≡ old → Gains [] old new
gains-nothing old new is x = ap (λ m. has m x) is

-- some names come, and then others
pub gains-more : (used more : List Text) (old mid new : Map) → Gains used old mid → Gains more mid new → Gains (used ++ more) old new
gains-more used more old mid new first next x =
    next x ∙ ap (λ b. list_any (same x) more || b) (first x) ∙ turned (list_any (same x) used) (list_any (same x) more) (has old x)
    ∙ sym (ap (λ b. b || has old x) (list_any-append (same x) used more))
  where
    turned : (a b c : Bool) → (b || (a || c)) ≡ ((a || b) || c)
    turned true true c = refl
    turned true false c = refl
    turned false true c = refl
    turned false false c = refl

-- ---- a value

-- with the parts from number n on, the names of the value have come
abbrev pub HaveGained : Text → Map → ℕ → Map → Type 0
HaveGained value old n new = OfValue value (λ v. (later : Map) → Gains (flat_map name_in (drop n (parts_of v))) new later → Gains (names_in v) old later)

-- ---- fields

rows_gain : (before : Text) (rows : List Row) (old new : Map) → All (IsRow name_limit) rows → GainsFrom (fields_after before rows) old new →
    Gains (flat_map names_in (map (λ row. row.assignment.value) rows)) old new
rows_gain before [] old new ok is = gains-nothing old new is
rows_gain before (row ∷ rows) old new ok is =
    let this : IsRow name_limit row = All-head (IsRow name_limit) row rows ok in
    gains-more (names_in row.assignment.value) (flat_map names_in (map (λ row. row.assignment.value) rows)) old is.0 new
    (is.1 row.assignment.value this.assignment.value refl)
    (rows_gain (before ++ row_bytes row) rows is.0 new (All-tail (IsRow name_limit) row rows ok) is.2)

-- the names that the fields of an item use are those that its values use
pub tree-gains : (tree : Tree) (old new : Map) → IsTree name_limit tree → GainsFrom (fields_of tree) old new → Gains (flat_map names_in (values_of tree)) old new
tree-gains (CommentTree h) old new ok is = gains-nothing old new is
tree-gains (DefinitionTree d) old new ok is = gains-more (names_in d.assignment.value) [] old is.0 new (is.1 d.assignment.value ok.assignment.value refl) (gains-nothing is.0 new is.2)
tree-gains (PreambleTree p) old new ok is = gains-more (names_in p.value) [] old is.0 new (is.1 p.value ok.value refl) (gains-nothing is.0 new is.2)
tree-gains (EntryTree e) old new ok is = rows_gain (opening_bytes e.opening ++ e.key ++ e.space_after_key) e.rows old new ok.rows is

rows_have : (before : Text) (rows : List Row) → All (IsRow name_limit) rows → HaveValues (fields_after before rows)
rows_have before [] ok = tt
rows_have before (row ∷ rows) ok =
    let this : IsRow name_limit row = All-head (IsRow name_limit) row rows ok in
    ((row.assignment.value, this.assignment.value, refl), rows_have (before ++ row_bytes row) rows (All-tail (IsRow name_limit) row rows ok))

-- each field of an item has a value
pub tree-has_values : (tree : Tree) → IsTree name_limit tree → HaveValues (fields_of tree)
tree-has_values (CommentTree h) ok = tt
tree-has_values (DefinitionTree d) ok = ((d.assignment.value, ok.assignment.value, refl), tt)
tree-has_values (PreambleTree p) ok = ((p.value, ok.value, refl), tt)
tree-has_values (EntryTree e) ok = rows_have (opening_bytes e.opening ++ e.key ++ e.space_after_key) e.rows ok.rows

-- ---- an item

pub names-gained : (used names : List Text) (old new : Map) → HasNames old names → Gains used old new → HasNames new (used ++ names)
names-gained used names old new is gains x = gains x ∙ ap (λ b. list_any (same x) used || b) (is x) ∙ sym (list_any-append (same x) used names)

without_any : (x name : Text) (names : List Text) → list_any (same x) (without name names) ≡ (if same x name then false else list_any (same x) names)
without_any x name [] = nothing (same x name)
  where
    nothing : (b : Bool) → false ≡ (if b then false else false)
    nothing true = refl
    nothing false = refl
without_any x name (other ∷ names) = ⊎_elim
    (λ out. ap (list_any (same x)) (cond-false (not (same name other)) (other ∷ without name names) (without name names) (ap not out))
    ∙ without_any x name names
    ∙ either (same x name) (same x other) (list_any (same x) names) (ap (bytes_eq (folded x)) (eq-true (folded name) (folded other) out)))
    (λ stays. ap (list_any (same x)) (cond-true (not (same name other)) (other ∷ without name names) (without name names) (ap not stays))
    ∙ ap (λ b. same x other || b) (without_any x name names)
    ∙ apart (same x name) (same x other) (list_any (same x) names) (λ e. sym (ap (λ t. bytes_eq t (folded other)) (eq-true (folded x) (folded name) e))) stays)
    (cases_Bool (same name other))
  where
    either : (b c d : Bool) → b ≡ c → (if b then false else d) ≡ (if b then false else (c || d))
    either true c d e = refl
    either false true d e = absurd (false≢true e)
    either false false d e = refl

    apart : (b c d : Bool) → (b ≡ true → same name other ≡ c) → same name other ≡ false → (c || (if b then false else d)) ≡ (if b then false else (c || d))
    apart true true d e f = absurd (false≢true (sym f ∙ e refl))
    apart true false d e f = refl
    apart false c d e f = refl

pub names-without : (name : Text) (names : List Text) (old new : Map) → HasNames old names → IsWithout old name new → HasNames new (without name names)
names-without name names old new is gone x =
    ap is_some (gone (folded x)) ∙ out (same x name) ∙ ap (λ b. if same x name then false else b) (is x) ∙ sym (without_any x name names)
  where
    out : (b : Bool) → is_some (if b then None else value_at old (folded x)) ≡ (if b then false else has old x)
    out true = refl
    out false = refl

without-both : (name : Text) (xs ys : List Text) → without name (xs ++ ys) ≡ without name xs ++ without name ys
without-both name [] ys = refl
without-both name (x ∷ xs) ys = ⊎_elim
    (λ e. cond-true (not (same name x)) (x ∷ without name (xs ++ ys)) (without name (xs ++ ys)) e ∙ ap (λ l. x ∷ l) (without-both name xs ys)
    ∙ sym (ap (λ l. l ++ without name ys) (cond-true (not (same name x)) (x ∷ without name xs) (without name xs) e)))
    (λ e. cond-false (not (same name x)) (x ∷ without name (xs ++ ys)) (without name (xs ++ ys)) e ∙ without-both name xs ys
    ∙ sym (ap (λ l. l ++ without name ys) (cond-false (not (same name x)) (x ∷ without name xs) (without name xs) e)))
    (cases_Bool (not (same name x)))

-- the names before an item that is kept: its own name goes out of those that it uses and of those after it
pub names-before : (tree : Tree) (names : List Text) → without_defined tree (flat_map names_in (values_of tree) ++ names) ≡ names_before true tree names
names-before (CommentTree h) names = refl
names-before (DefinitionTree d) names = without-both d.assignment.name (flat_map names_in (values_of (DefinitionTree d))) names
names-before (PreambleTree p) names = refl
names-before (EntryTree e) names = refl

-- ---- parts

part_in : (v : Value) → IsValue name_limit v → (n : ℕ) (p : Part) → slice_get (parts_of v) n ≡ Some p → IsPart name_limit p
part_in v ok zero p at = subst (IsPart name_limit) (same_Some v.first p at) ok.first
part_in v ok (suc n) p at = links_in v.links ok.links n p at
  where
    links_in : (links : List Link) → All (IsLink name_limit) links → (n : ℕ) (p : Part) → slice_get (map (λ l. l.part) links) n ≡ Some p → IsPart name_limit p
    links_in [] all n p at = absurd (none-some p at)
    links_in (l ∷ ls) all zero p at = let this : IsLink name_limit l = All-head (IsLink name_limit) l ls all in subst (IsPart name_limit) (same_Some l.part p at) this.part
    links_in (l ∷ ls) all (suc n) p at = links_in ls (All-tail (IsLink name_limit) l ls all) n p at

-- a part of a value is a part of the grammar
pub part-is : (value : Text) (n : ℕ) (p : Part) → IsValueWithin name_limit value → OfValue value (λ v. slice_get (parts_of v) n ≡ Some p) → IsPart name_limit p
part-is value n p it at = part_in it.0 it.1 n p (at it.0 it.1 it.2)

-- the only part of a value
pub only-is : (value : Text) (p : Part) → IsValueWithin name_limit value → OfValue value (λ v. parts_of v ≡ p ∷ []) → IsPart name_limit p
only-is value p it only = part_in it.0 it.1 0 p (ap (λ ps. slice_get ps 0) (only it.0 it.1 it.2))

-- the names of a value's one part
pub gains-only : (value : Text) (p : Part) (old new : Map) → OfValue value (λ v. parts_of v ≡ p ∷ []) → Gains (name_in p) old new → OfValue value (λ v. Gains (names_in v) old new)
gains-only value p old new only gains v ok same = subst (λ ps. Gains (flat_map name_in ps) old new) (sym (only v ok same)) (subst (λ ns. Gains ns old new) (sym (append-nil (name_in p))) gains)

pub gained-begin : (value : Text) (old : Map) → HaveGained value old 0 old
gained-begin value old v ok same later gains = gains

pub gained-part : (value : Text) (old mid new : Map) (n : ℕ) (p : Part) → OfValue value (λ v. slice_get (parts_of v) n ≡ Some p) → Gains (name_in p) mid new → HaveGained value old n mid → HaveGained value old (n + 1) new
gained-part value old mid new n p at gains so_far v ok same later more =
    so_far v ok same later (subst (λ ps. Gains (flat_map name_in ps) mid later) (sym (drop-next (parts_of v) n p (at v ok same)))
    (gains-more (name_in p) (flat_map name_in (drop (n + 1) (parts_of v))) mid new later gains more))

pub gained-all : (value : Text) (old new : Map) (n : ℕ) → OfValue value (λ v. length (parts_of v) ≤ n) → HaveGained value old n new → OfValue value (λ v. Gains (names_in v) old new)
gained-all value old new n past so_far v ok same =
    so_far v ok same new (subst (λ ps. Gains (flat_map name_in ps) new new) (sym (drop_all n (parts_of v) (past v ok same))) (gains-nothing new new refl))

-- ---- definitions

-- for a definition, neither the entries that are kept nor their numbers count
pub definition-stays : (tree : Tree) (keeps : ℕ → Bool) (n : ℕ) (names : List Text) → kind_of tree ≡ kind.Macro → stays (λ m. false) 0 names tree ≡ stays keeps n names tree
definition-stays (CommentTree h) keeps n names is = refl
definition-stays (PreambleTree p) keeps n names is = refl
definition-stays (DefinitionTree d) keeps n names is = refl
definition-stays (EntryTree e) keeps n names is = cc

-- the name that a definition defines goes out
pub defined-gone : (tree : Tree) (field : Field) (rest : List Field) (names : List Text) (old new : Map) → kind_of tree ≡ kind.Macro → fields_of tree ≡ field ∷ rest → HasNames old names →
    IsWithout old field.name new → HasNames new (without_defined tree names)
defined-gone (CommentTree h) field rest names old new is fields has gone = cc
defined-gone (PreambleTree p) field rest names old new is fields has gone = cc
defined-gone (EntryTree e) field rest names old new is fields has gone = cc
defined-gone (DefinitionTree d) field rest names old new is fields has gone =
    let name : d.assignment.name ≡ field.name = ap (λ (f : Field). f.name) (first_same _ field [] rest fields) in
    names-without d.assignment.name names old new has (subst (λ (n : Text). IsWithout old n new) (sym name) gone)
  where
    first_same : (x y : Field) (xs ys : List Field) → x ∷ xs ≡ y ∷ ys → x ≡ y
    first_same x y xs ys e = cc

-- a definition has a field
pub defined-some : (tree : Tree) → kind_of tree ≡ kind.Macro → fields_of tree ≡ [] → ⊥
defined-some (CommentTree h) is none = cc
defined-some (PreambleTree p) is none = cc
defined-some (EntryTree e) is none = cc
defined-some (DefinitionTree d) is none = cc

-- the name is still to be defined, if the map has it
pub defined-awaited : (tree : Tree) (field : Field) (rest : List Field) (names : List Text) (map : Map) → kind_of tree ≡ kind.Macro → fields_of tree ≡ field ∷ rest → HasNames map names →
    has map field.name ≡ stays (λ n. false) 0 names tree
defined-awaited (CommentTree h) field rest names map is fields names_are = cc
defined-awaited (PreambleTree p) field rest names map is fields names_are = cc
defined-awaited (EntryTree e) field rest names map is fields names_are = cc
defined-awaited (DefinitionTree d) field rest names map is fields names_are =
    ap (has map) (sym (ap (λ (f : Field). f.name) (first_same _ field [] rest fields))) ∙ names_are d.assignment.name
  where
    first_same : (x y : Field) (xs ys : List Field) → x ∷ xs ≡ y ∷ ys → x ≡ y
    first_same x y xs ys e = cc

-- a map that has no value of any name
pub names-none : (map : Map) → ((name : Text) → value_at map name ≡ None) → HasNames map []
names-none map none name = ap is_some (none (folded name))

pub some-copied : (o : Option (Bor Bool)) → is_some o ≡ is_some (option_copied o)
some-copied None = refl
some-copied (Some b) = refl
