-- Whether a part that is watched for was met on the way.
use Rattle.bib_tokens.proofs.Words.{◌≡◌, ℕ, zero, suc, ◌+◌, ◌<◌, ◌≤◌, Bool, true, false, ◌||◌, List, [], ◌∷◌, ◌++◌, Some, slice_get, length, map, take, drop, refl, sym, ◌∙◌, ap, ap₂, subst, All, not-suc-le-zero, le_of_suc-le-suc, list_any, or-false, drop_all, All-head, All-tail, none-some}
use Rattle.bib_tokens.proofs.Words.{same_Some, name_limit, Text, Part, Value, Row, Tree, CommentTree, DefinitionTree, PreambleTree, EntryTree, IsTree, IsRow, row_bytes, opening_bytes, IsItem, Item, Reading, Reads, item_in, any_part, have_part, View, Field, view_of, fields_after, fields_of, OfValue}
use Rattle.bib_tokens.proofs.Words.{IsMetIn, list_any-append}
use Rattle.std.proofs.Common.{add-one}
use Rattle.std.proofs.Math.Bool.{or_assoc}
use Rattle.bib_spec.specs.Texts.{parts_of}
use Rattle.bib_tokens.proofs.Elements.{slice_get-within, drop-next}

take-next : {X : Type 0} (xs : List X) (n : ℕ) (x : X) → slice_get xs n ≡ Some x → take (suc n) xs ≡ take n xs ++ x ∷ []
take-next [] n x at = absurd (none-some x at)
take-next (y ∷ ys) zero x at = ap (λ z. z ∷ []) (same_Some y x at)
take-next (y ∷ ys) (suc n) x at = ap (λ l. y ∷ l) (take-next ys n x at)

module _ (test : Part → Bool) where
  -- ---- in a value

  -- with the parts from number n on, whether one was met so far is whether there is one
  abbrev pub IsMetTo : Text → ℕ → Bool → Type 0
  IsMetTo value n met = OfValue value (λ v. (met || list_any test (drop n (parts_of v))) ≡ list_any test (parts_of v))

  pub met-part : (value : Text) (n : ℕ) (met : Bool) (p : Part) → OfValue value (λ v. slice_get (parts_of v) n ≡ Some p) → IsMetTo value n met → IsMetTo value (n + 1) (met || test p)
  met-part value n met p is to v ok same =
      or_assoc met (test p) (list_any test (drop (n + 1) (parts_of v)))
      ∙ ap (λ (ps : List Part). met || list_any test ps) (sym (drop-next (parts_of v) n p (is v ok same)))
      ∙ to v ok same

  pub met-parts : (value : Text) (n : ℕ) (met : Bool) → OfValue value (λ v. length (parts_of v) ≤ n) → IsMetTo value n met → OfValue value (λ v. met ≡ list_any test (parts_of v))
  met-parts value n met past to v ok same =
      sym (or-false met) ∙ ap (λ (ps : List Part). met || list_any test ps) (sym (drop_all n (parts_of v) (past v ok same))) ∙ to v ok same

  pub met-only : (value : Text) (p : Part) → OfValue value (λ v. parts_of v ≡ p ∷ []) → OfValue value (λ v. test p ≡ list_any test (parts_of v))
  met-only value p only v ok same = sym (or-false (test p)) ∙ ap (list_any test) (sym (only v ok same))

  -- ---- in an item

  rows-met : (before : Text) (rows : List Row) (met : Bool) → All (IsRow name_limit) rows → IsMetIn test (fields_after before rows) met → met ≡ list_any (λ (v : Value). list_any test (parts_of v)) (map (λ (row : Row). row.assignment.value) rows)
  rows-met before [] met ok is = is
  rows-met before (row ∷ rows) met ok is =
      let this : IsRow name_limit row = All-head (IsRow name_limit) row rows ok in
      is.4 ∙ ap₂ ◌||◌ (is.2 row.assignment.value this.assignment.value refl) (rows-met (before ++ row_bytes row) rows is.1 (All-tail (IsRow name_limit) row rows ok) is.3)

  tree-met : (tree : Tree) (met : Bool) → IsTree name_limit tree → IsMetIn test (fields_of tree) met → met ≡ any_part test tree
  tree-met (CommentTree h) met ok is = is
  tree-met (DefinitionTree d) met ok is = is.4 ∙ ap₂ ◌||◌ (is.2 d.assignment.value ok.assignment.value refl) is.3
  tree-met (PreambleTree p) met ok is = is.4 ∙ ap₂ ◌||◌ (is.2 p.value ok.value refl) is.3
  tree-met (EntryTree e) met ok is = rows-met (opening_bytes e.opening ++ e.key ++ e.space_after_key) e.rows met ok.rows is

  pub item-met : (file : Text) (db : Reading) (n : ℕ) (item : Item) (view : View) (fields : List Field) (met : Bool) → Reads file db → slice_get db.items n ≡ Some item → view ≡ view_of item → fields ≡ view.fields →
      IsMetIn test fields met → met ≡ any_part test item.tree
  item-met file db n item view fields met reads at seen same is =
      tree-met item.tree met (item_in (IsItem name_limit) db.items n item reads.items at).tree
      (subst (λ (fs : List Field). IsMetIn test fs met) (same ∙ ap (λ (v : View). v.fields) seen) is)

  -- with the fields that are left, whether one was met so far is whether there is one in all
  abbrev pub HaveMet : List Field → List Field → Bool → Type 0
  HaveMet all left met = (later : Bool) → IsMetIn test left later → IsMetIn test all (met || later)

  pub met-field : (all left : List Field) (field : Field) (rest : List Field) (met here later : Bool) → field ∷ rest ≡ left → OfValue field.value (λ v. here ≡ list_any test (parts_of v)) → IsMetIn test rest later →
      HaveMet all left met → IsMetIn test all ((met || here) || later)
  met-field all left field rest met here later is found more so_far =
      subst (IsMetIn test all) (sym (or_assoc met here later)) (so_far (here || later) (subst (λ (fs : List Field). IsMetIn test fs (here || later)) is (here, later, found, more, refl)))

  pub met-no_field : (all left : List Field) (met : Bool) → left ≡ [] → HaveMet all left met → IsMetIn test all met
  met-no_field all left met none so_far = subst (IsMetIn test all) (or-false met) (so_far false (subst (λ (fs : List Field). IsMetIn test fs false) (sym none) refl))

  -- ---- in items from one on

  -- with the items from number k on, whether one was met so far is whether there is one from number n on
  abbrev pub IsMetFrom : List Item → ℕ → ℕ → Bool → Type 0
  IsMetFrom items n k met = (met || have_part test (drop k items)) ≡ have_part test (drop n items)

  pub met-item : (file : Text) (db : Reading) (n k : ℕ) (met here : Bool) (view : View) (fields : List Field) → Reads file db → k < length db.items → ((i : Item) → slice_get db.items k ≡ Some i → view ≡ view_of i) → fields ≡ view.fields →
      IsMetIn test fields here → IsMetFrom db.items n k met → IsMetFrom db.items n (k + 1) (met || here)
  met-item file db n k met here view fields reads lt seen same is to =
      let it = slice_get-within db.items k lt in
      ap (λ (b : Bool). (met || b) || have_part test (drop (k + 1) db.items)) (item-met file db k it.0 view fields here reads it.1 (seen it.0 it.1) same is)
      ∙ or_assoc met (any_part test it.0.tree) (have_part test (drop (k + 1) db.items))
      ∙ ap (λ (l : List Item). met || have_part test l) (sym (drop-next db.items k it.0 it.1))
      ∙ to

  pub met-items : (items : List Item) (n k : ℕ) (met : Bool) → length items ≤ k → IsMetFrom items n k met → met ≡ have_part test (drop n items)
  met-items items n k met past to = sym (or-false met) ∙ ap (λ (l : List Item). met || have_part test l) (sym (drop_all k items past)) ∙ to

  -- ---- in the first items

  pub met-next : (items : List Item) (n : ℕ) (met : Bool) → n < length items → met ≡ have_part test (take n items) → (here : Bool) → ((i : Item) → slice_get items n ≡ Some i → here ≡ any_part test i.tree) →
      (met || here) ≡ have_part test (take (n + 1) items)
  met-next items n met lt to here is =
      let it = slice_get-within items n lt in
      ap₂ ◌||◌ to (is it.0 it.1 ∙ sym (or-false (any_part test it.0.tree)))
      ∙ sym (ap (have_part test) (ap (λ (m : ℕ). take m items) (add-one n) ∙ take-next items n it.0 it.1) ∙ list_any-append (λ (i : Item). any_part test i.tree) (take n items) (it.0 ∷ []))

  pub met-within : (items : List Item) (k n : ℕ) → k < n → k < length items → ((i : Item) → slice_get items k ≡ Some i → any_part test i.tree ≡ true) → true ≡ have_part test (take n items)
  met-within [] k n lt within is = absurd (not-suc-le-zero within)
  met-within (i ∷ items) k zero lt within is = absurd (not-suc-le-zero lt)
  met-within (i ∷ items) zero (suc n) lt within is = sym (ap (λ b. b || have_part test (take n items)) (is i refl))
  met-within (i ∷ items) (suc k) (suc n) lt within is = after (any_part test i.tree) (met-within items k n (le_of_suc-le-suc lt) (le_of_suc-le-suc within) is)
    where
      after : (b : Bool) {c : Bool} → true ≡ c → true ≡ (b || c)
      after true h = refl
      after false h = h
