-- Marks that are added, part by part.
use Rattle.bib_items.proofs.Words.{◌≡◌, ℕ, zero, suc, ◌+◌, ◌≤◌, Bool, List, [], ◌∷◌, ◌++◌, Option, Some, length, map, take, drop, insert, refl, sym, ◌∙◌, ap, subst, All, ⊎_elim, arith, Contains, Err, IsBinarySearchResult, nat_cmp, AllByRecursion, list_any, cases_Bool, take_all, All-head, All-tail}
use Rattle.bib_items.proofs.Words.{All-cons, All-take, All-drop, All-append, All-weaker, same_Some, name_limit, Text, folded, same, bytes_eq, eq-true, Part, Braced, Quoted, Digits, Macro, Value, Row, Tree, CommentTree, DefinitionTree, PreambleTree, EntryTree, value_bytes, row_bytes, opening_bytes}
use Rattle.bib_items.proofs.Words.{tree_bytes, parts_of, values_of, Sought, test_of, LacksPart, AreMarks, mixed_all, name_mark, sought_mark, KeepsMarks, HasItemMarks, IsCovered}
use Rattle.std.proofs.Common.{false, ◌||◌, slice_get}
use Rattle.std.specs.List.Sorted.{IsNonDecreasing}
use Rattle.std.proofs.lemmas.Grind.{get_or_default_zero}
use Rattle.std.proofs.lemmas.List.Elements.{Contains-append_right}
use Rattle.std.proofs.lemmas.List.Sorted.{IsPermutation-insert, IsNonDecreasingBy-insert, Contains-permutation, searched}
use Rattle.bib_spec.specs.Tree.{IsValue, IsRow, IsTree}
use Rattle.bib_scan.specs.View.{View, Field, view_of, fields_of, fields_after}
use Rattle.bib_items.specs.declared.seeking.Sought.TheVariants as sought
use Rattle.bib_items.specs.Slots.{IsSeen}
use Rattle.bib_items.specs.PartMarks.{text_mark, HasPartMark, HasMarksOf, HasValueMarks, HasFieldMarks}

-- ---- more marks

pub keeps-trans : (a b c : List ℕ) → KeepsMarks a b → KeepsMarks b c → KeepsMarks a c
keeps-trans a b c h k mark is = k mark (h mark is)

pub keeps-insert : (marks : List ℕ) (at mark : ℕ) → KeepsMarks marks (insert marks at mark)
keeps-insert marks at mark other is =
    Contains-permutation (mark ∷ marks) (insert marks at mark) other (IsPermutation-insert marks at mark) (Contains-append_right (mark ∷ []) marks other is)

-- marks stay in order after a new one is inserted where a search did not find it
sorted-insert : (marks : List ℕ) (at mark : ℕ) → IsBinarySearchResult (λ other. nat_cmp other mark) marks (Err at) → IsNonDecreasing marks → IsNonDecreasing (insert marks at mark)
sorted-insert marks at mark found sorted =
    let place = searched marks mark (Err at) found (λ i j low high. sorted i j 0 low high) in
    IsNonDecreasingBy-insert (λ x. x) marks at mark sorted place.0
    (λ k d low. let here = place.1 k low in let same = get_or_default_zero marks k d (omega (arith, place.0, low)) in omega (arith, here, same))
    (λ k d low high. let here = place.2 k low high in let same = get_or_default_zero marks k d high in omega (arith, here, same))

-- the marks with one more, whose slot is taken
pub marks-insert : (marks : List ℕ) (seen : List Bool) (at mark : ℕ) → IsBinarySearchResult (λ other. nat_cmp other mark) marks (Err at) → IsSeen seen mark → AreMarks marks seen → AreMarks (insert marks at mark) seen
marks-insert marks seen at mark found has is = record {
  order = sorted-insert marks at mark found is.order;
  each = All-append (IsSeen seen) (take at marks) (mark ∷ drop at marks) (All-take (IsSeen seen) at marks is.each) (All-cons (IsSeen seen) mark (drop at marks) has (All-drop (IsSeen seen) at marks is.each));
}

-- the marks, with more slots taken
pub marks-seen : (marks : List ℕ) (old new : List Bool) → ((other : ℕ) → IsSeen old other → IsSeen new other) → AreMarks marks old → AreMarks marks new
marks-seen marks old new keeps is = record { order = is.order; each = All-weaker (IsSeen old) (IsSeen new) keeps marks is.each }

-- what holds of each holds of each if it leads to that
all-lead : {X : Type 0} (P Q : X → Type 0) → ((x : X) → P x → Q x) → (xs : List X) → AllByRecursion P xs → AllByRecursion Q xs
all-lead P Q lead [] all = tt
all-lead P Q lead (x ∷ xs) all = (lead x all.0, all-lead P Q lead xs all.1)

part-kept : (old new : List ℕ) → KeepsMarks old new → (p : Part) → HasPartMark old p → HasPartMark new p
part-kept old new keeps p has mark is = keeps mark (has mark is)

parts-kept : (old new : List ℕ) → KeepsMarks old new → (ps : List Part) → AllByRecursion (HasPartMark old) ps → AllByRecursion (HasPartMark new) ps
parts-kept old new keeps ps all = all-lead (HasPartMark old) (HasPartMark new) (part-kept old new keeps) ps all

value-kept : (old new : List ℕ) (value : Text) → KeepsMarks old new → HasValueMarks old value → HasValueMarks new value
value-kept old new value keeps has v ok same = parts-kept old new keeps (parts_of v) (has v ok same)

pub item-kept : (old new : List ℕ) (body : Text) → KeepsMarks old new → HasItemMarks old body → HasItemMarks new body
item-kept old new body keeps has tree ok same =
    all-lead (HasMarksOf old) (HasMarksOf new) (λ v. parts-kept old new keeps (parts_of v)) (values_of tree) (has tree ok same)

pub covered-kept : (marks : Option (List ℕ)) (old new : List ℕ) (body : Text) → Some old ≡ marks → KeepsMarks old new → IsCovered marks body → HasItemMarks new body
covered-kept marks old new body is keeps has = item-kept old new body keeps (subst (λ (m : Option (List ℕ)). IsCovered m body) (sym is) has)

-- ---- the parts of a value, one by one

-- the marks of the first parts of the value with these bytes are among these
abbrev pub HaveFirst : List ℕ → Text → ℕ → Type 0
HaveFirst marks value n = (v : Value) → IsValue name_limit v → value_bytes v ≡ value → AllByRecursion (HasPartMark marks) (take n (parts_of v))

all-taken : {X : Type 0} (P : X → Type 0) (xs : List X) (n : ℕ) (x : X) → slice_get xs n ≡ Some x → P x → AllByRecursion P (take n xs) → AllByRecursion P (take (suc n) xs)
all-taken P [] n x at here all = tt
all-taken P (y ∷ ys) zero x at here all = (subst P (sym (same_Some y x at)) here, tt)
all-taken P (y ∷ ys) (suc n) x at here all = (all.0, all-taken P ys n x at here all.1)

pub first-more : (old new : List ℕ) (value : Text) (n : ℕ) (p : Part) → KeepsMarks old new → HasPartMark new p
    → ((v : Value) → IsValue name_limit v → value_bytes v ≡ value → slice_get (parts_of v) n ≡ Some p) → HaveFirst old value n → HaveFirst new value (n + 1)
first-more old new value n p keeps has is first v ok same =
    let next : suc n ≡ n + 1 = omega arith in
    subst (λ (k : ℕ). AllByRecursion (HasPartMark new) (take k (parts_of v))) next
    (all-taken (HasPartMark new) (parts_of v) n p (is v ok same) has (parts-kept old new keeps (take n (parts_of v)) (first v ok same)))

pub first-all : (marks : List ℕ) (value : Text) (n : ℕ) → ((v : Value) → IsValue name_limit v → value_bytes v ≡ value → length (parts_of v) ≤ n) → HaveFirst marks value n → HasValueMarks marks value
first-all marks value n past first v ok same = subst (AllByRecursion (HasPartMark marks)) (take_all n (parts_of v) (past v ok same)) (first v ok same)

pub only-part : (marks : List ℕ) (value : Text) (p : Part) → HasPartMark marks p → ((v : Value) → IsValue name_limit v → value_bytes v ≡ value → parts_of v ≡ p ∷ []) → HasValueMarks marks value
only-part marks value p has only v ok same = subst (AllByRecursion (HasPartMark marks)) (sym (only v ok same)) (has, tt)

-- ---- the fields of an item, one by one

-- all marks that have those of the rest of the fields besides these have those of all fields
abbrev pub HaveFieldsSoFar : List Field → List Field → List ℕ → Type 0
HaveFieldsSoFar all rest marks = (new : List ℕ) → KeepsMarks marks new → HasFieldMarks new rest → HasFieldMarks new all

pub fields-more : (all left rest : List Field) (field : Field) (old new : List ℕ) → left ≡ field ∷ rest → KeepsMarks old new → HasValueMarks new field.value
    → HaveFieldsSoFar all left old → HaveFieldsSoFar all rest new
fields-more all left rest field old new is keeps has so_far more more_keeps others =
    so_far more (keeps-trans old new more keeps more_keeps) (subst (HasFieldMarks more) (sym is) (value-kept new more field.value more_keeps has, others))

pub fields-all : (all left : List Field) (marks : List ℕ) → left ≡ [] → HaveFieldsSoFar all left marks → HasFieldMarks marks all
fields-all all left marks none so_far = so_far marks (λ mark is. is) (subst (HasFieldMarks marks) (sym none) tt)

rows-marked : (marks : List ℕ) (before : Text) (rows : List Row) → All (IsRow name_limit) rows → HasFieldMarks marks (fields_after before rows) → AllByRecursion (HasMarksOf marks) (map (λ (row : Row). row.assignment.value) rows)
rows-marked marks before [] ok has = tt
rows-marked marks before (row ∷ rows) ok has =
    let this : IsRow name_limit row = All-head (IsRow name_limit) row rows ok in
    (has.0 row.assignment.value this.assignment.value refl, rows-marked marks (before ++ row_bytes row) rows (All-tail (IsRow name_limit) row rows ok) has.1)

tree-marked : (marks : List ℕ) (tree : Tree) → IsTree name_limit tree → HasFieldMarks marks (fields_of tree) → AllByRecursion (HasMarksOf marks) (values_of tree)
tree-marked marks (CommentTree h) ok has = tt
tree-marked marks (DefinitionTree d) ok has = (has.0 d.assignment.value ok.assignment.value refl, tt)
tree-marked marks (PreambleTree p) ok has = (has.0 p.value ok.value refl, tt)
tree-marked marks (EntryTree e) ok has = rows-marked marks (opening_bytes e.opening ++ e.key ++ e.space_after_key) e.rows ok.rows has

pub item-marked : (marks : List ℕ) (body trail : Text) (view : View) (fields : List Field)
    → ((tree : Tree) → IsTree name_limit tree → tree_bytes tree ≡ body → view ≡ view_of (record { tree = tree; trail = trail })) → fields ≡ view.fields → HasFieldMarks marks fields → HasItemMarks marks body
item-marked marks body trail view fields is same has tree ok bytes =
    tree-marked marks tree ok (subst (HasFieldMarks marks) (same ∙ ap (λ (v : View). v.fields) (is tree ok bytes)) has)

-- ---- where a search need not look

-- the mark of what is sought is not among these
abbrev pub LacksMark : List ℕ → Sought → Type 0
LacksMark marks s = (mark : ℕ) → sought_mark s ≡ Some mark → Contains marks mark → ⊥

pub none-passes : {X : Type 0} (P : X → Type 0) (test : X → Bool) → ((x : X) → P x → test x ≡ false) → (xs : List X) → AllByRecursion P xs → list_any test xs ≡ false
none-passes P test fails [] all = refl
none-passes P test fails (x ∷ xs) all = ap (λ b. b || list_any test xs) (fails x all.0) ∙ none-passes P test fails xs all.1

module _ (marks : List ℕ) where
  text_unmet : (text : Text) → ((mark : ℕ) → Some (text_mark text) ≡ Some mark → Contains marks mark → ⊥) → (t : Text) → Contains marks (text_mark t) → bytes_eq t text ≡ false
  text_unmet text lacks t has = ⊎_elim
      (λ e. absurd (lacks (text_mark t) (ap (λ (x : Text). Some (text_mark x)) (sym (eq-true t text e))) has))
      (λ f. f)
      (cases_Bool (bytes_eq t text))

  part-unmet : (s : Sought) → LacksMark marks s → (p : Part) → HasPartMark marks p → test_of s p ≡ false
  part-unmet sought.Nothing lacks p has = refl
  part-unmet (sought.Uses name) lacks (Macro used) has = ⊎_elim
      (λ t. absurd (lacks (name_mark used) (ap (λ (x : Text). Some (mixed_all 1 x)) (sym (eq-true (folded used) (folded name.now) t))) (has (name_mark used) refl)))
      (λ f. f)
      (cases_Bool (same used name.now))
  part-unmet (sought.Uses name) lacks (Braced t) has = refl
  part-unmet (sought.Uses name) lacks (Quoted t) has = refl
  part-unmet (sought.Uses name) lacks (Digits t) has = refl
  part-unmet (sought.Holds text) lacks (Braced t) has = text_unmet text.now lacks t (has (text_mark t) refl)
  part-unmet (sought.Holds text) lacks (Quoted t) has = text_unmet text.now lacks t (has (text_mark t) refl)
  part-unmet (sought.Holds text) lacks (Digits t) has = refl
  part-unmet (sought.Holds text) lacks (Macro name) has = refl

  pub item-unmet : (s : Sought) → LacksMark marks s → (body : Text) → HasItemMarks marks body → LacksPart s body
  item-unmet s lacks body has tree ok same =
      none-passes (HasMarksOf marks) (λ v. list_any (test_of s) (parts_of v)) (λ v. none-passes (HasPartMark marks) (test_of s) (part-unmet s lacks) (parts_of v)) (values_of tree) (has tree ok same)
