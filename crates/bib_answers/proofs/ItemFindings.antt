-- The findings in an item, by its view.
use Rattle.bib_answers.proofs.Words.{◌≡◌, ◌∙◌, ℕ, Bool, true, false, List, [], ◌++◌, refl, sym, ap, false≢true, Tree, CommentTree, DefinitionTree, PreambleTree, EntryTree, Reading, Macros, months, macros_at, entries_of, is_repeated, View, Field, fields_of, kind_of, key_of, is_entry_tree, assigned}
use Rattle.bib_answers.proofs.Words.{defined_in, entries_before, Finding, field_findings, crossrefs_of, Written, with_findings}
use Rattle.std.proofs.Math.Path.{fun_ext}
use Rattle.bib_spec.specs.Tree.{Value}
use Rattle.bib_scan.specs.View.{head_of, key_place}
use Rattle.bib_answers.specs.Lint.{key_findings, for_entry, redefines, first_findings, item_findings, findings_in_body, trail_findings, findings_in_trail, findings_on}
use Rattle.bib_answers.proofs.ItemFields.{IsViewed}
use Rattle.bib_answers.proofs.FindingSteps.{findings_append}

entry_has : {X : Type 0} (tree : Tree) (xs : List X) → is_entry_tree tree ≡ true → for_entry (kind_of tree) xs ≡ xs
entry_has (CommentTree h) xs is = absurd (false≢true is)
entry_has (DefinitionTree d) xs is = absurd (false≢true is)
entry_has (PreambleTree p) xs is = absurd (false≢true is)
entry_has (EntryTree e) xs is = refl

other_has : {X : Type 0} (tree : Tree) (xs : List X) → is_entry_tree tree ≡ false → for_entry (kind_of tree) xs ≡ []
other_has (CommentTree h) xs is = refl
other_has (DefinitionTree d) xs is = refl
other_has (PreambleTree p) xs is = refl
other_has (EntryTree e) xs is = absurd (false≢true (sym is))

-- the findings in the first fields of an item that is no entry have nothing of a crossref
other_firsts : (tree : Tree) (macros : Macros) (redefined : Bool) (crossrefs others : ℕ → List Finding) → is_entry_tree tree ≡ false → first_findings (kind_of tree) macros redefined crossrefs ≡ first_findings (kind_of tree) macros redefined others
other_firsts (CommentTree h) macros redefined crossrefs others is = refl
other_firsts (DefinitionTree d) macros redefined crossrefs others is = refl
other_firsts (PreambleTree p) macros redefined crossrefs others is = refl
other_firsts (EntryTree e) macros redefined crossrefs others is = absurd (false≢true (sym is))

-- those of an entry have nothing of a macro
entry_firsts : (tree : Tree) (macros : Macros) (redefined other : Bool) (crossrefs : ℕ → List Finding) → is_entry_tree tree ≡ true → first_findings (kind_of tree) macros redefined crossrefs ≡ first_findings (kind_of tree) macros other crossrefs
entry_firsts (CommentTree h) macros redefined other crossrefs is = absurd (false≢true is)
entry_firsts (DefinitionTree d) macros redefined other crossrefs is = absurd (false≢true is)
entry_firsts (PreambleTree p) macros redefined other crossrefs is = absurd (false≢true is)
entry_firsts (EntryTree e) macros redefined other crossrefs is = refl

-- the findings in an item's fields, by its view
abbrev pub view_findings : Reading → ℕ → Bool → (ℕ → List Finding) → View → Tree → List Finding
view_findings db n redefined crossrefs view tree = field_findings (defined_in view.kind) (macros_at months db.items n) (first_findings view.kind (macros_at months db.items n) redefined crossrefs) [] view.fields (assigned tree)

module _ (db : Reading) (n : ℕ) (view : View) (is : IsViewed db n view) where
  abbrev tree : Tree
  tree = is.item.tree

  abbrev e : ℕ
  e = entries_before db n

  abbrev again : Bool
  again = redefines db.items n tree

  abbrev of_fields : (Field → Value → List Finding) → List Finding
  of_fields firsts = field_findings (defined_in (kind_of tree)) (macros_at months db.items n) firsts [] (fields_of tree) (assigned tree)

  by_view : (redefined : Bool) (crossrefs : ℕ → List Finding) → view_findings db n redefined crossrefs view tree ≡ of_fields (first_findings (kind_of tree) (macros_at months db.items n) redefined crossrefs)
  by_view redefined crossrefs = ap (λ (v : View). view_findings db n redefined crossrefs v tree) is.view_is

  on_item : findings_in_body db n ≡ item_findings (entries_of db) (macros_at months db.items n) again e tree
  on_item = rw is.at refl

  -- of another item than an entry
  pub other_found : (redefined : Bool) (crossrefs : ℕ → List Finding) → is_entry_tree is.item.tree ≡ false → redefined ≡ redefines db.items n is.item.tree → view_findings db n redefined crossrefs view is.item.tree ≡ findings_in_body db n
  other_found redefined crossrefs other defines =
      by_view redefined crossrefs
      ∙ ap (λ (b : Bool). of_fields (first_findings (kind_of tree) (macros_at months db.items n) b crossrefs)) defines
      ∙ ap of_fields (other_firsts tree (macros_at months db.items n) again crossrefs (crossrefs_of (entries_of db) e) other)
      ∙ ap (λ (fs : List Finding). fs ++ of_fields (first_findings (kind_of tree) (macros_at months db.items n) again (crossrefs_of (entries_of db) e)))
      (sym (other_has tree (key_findings (key_place tree) (head_of tree).type_name (is_repeated (entries_of db) e) (key_of tree)) other))
      ∙ sym on_item

  -- of an entry
  pub entry_found : (redefined : Bool) (crossrefs : ℕ → List Finding) → is_entry_tree is.item.tree ≡ true → ((at : ℕ) → crossrefs at ≡ crossrefs_of (entries_of db) e at)
      → key_findings view.key_at view.type_name (is_repeated (entries_of db) e) view.key ++ view_findings db n redefined crossrefs view is.item.tree ≡ findings_in_body db n
  entry_found redefined crossrefs entry are =
      ap (λ (fs : List Finding). key_findings view.key_at view.type_name (is_repeated (entries_of db) e) view.key ++ fs)
      (by_view redefined crossrefs
      ∙ ap (λ (c : ℕ → List Finding). of_fields (first_findings (kind_of tree) (macros_at months db.items n) redefined c)) (fun_ext are)
      ∙ ap of_fields (entry_firsts tree (macros_at months db.items n) redefined again (crossrefs_of (entries_of db) e) entry))
      ∙ ap (λ (v : View). key_findings v.key_at v.type_name (is_repeated (entries_of db) e) v.key ++ of_fields (first_findings (kind_of tree) (macros_at months db.items n) again (crossrefs_of (entries_of db) e))) is.view_is
      ∙ ap (λ (fs : List Finding). fs ++ of_fields (first_findings (kind_of tree) (macros_at months db.items n) again (crossrefs_of (entries_of db) e)))
      (sym (entry_has tree (key_findings (key_place tree) (head_of tree).type_name (is_repeated (entries_of db) e) (key_of tree)) entry))
      ∙ sym on_item

  -- the lines of another item than an entry
  pub other_written : (redefined : Bool) (crossrefs : ℕ → List Finding) (macros : Macros) (w out : Written) → is_entry_tree is.item.tree ≡ false → redefined ≡ redefines db.items n is.item.tree
      → macros ≡ macros_at months db.items n
      → out ≡ with_findings w (field_findings (defined_in view.kind) macros (first_findings view.kind macros redefined crossrefs) [] view.fields (assigned is.item.tree))
      → out ≡ with_findings w (findings_in_body db n)
  other_written redefined crossrefs macros w out other defines macros_are written =
      written
      ∙ ap (λ (m : Macros). with_findings w (field_findings (defined_in view.kind) m (first_findings view.kind m redefined crossrefs) [] view.fields (assigned is.item.tree))) macros_are
      ∙ ap (with_findings w) (other_found redefined crossrefs other defines)

  -- the lines of an entry
  pub entry_written : (redefined : Bool) (crossrefs : ℕ → List Finding) (macros : Macros) (w keyed out : Written) (repeated : Bool) → is_entry_tree is.item.tree ≡ true
      → ((at : ℕ) → crossrefs at ≡ crossrefs_of (entries_of db) (entries_before db n) at)
      → macros ≡ macros_at months db.items n → repeated ≡ is_repeated (entries_of db) (entries_before db n)
      → keyed ≡ with_findings w (key_findings view.key_at view.type_name repeated view.key)
      → out ≡ with_findings keyed (field_findings (defined_in view.kind) macros (first_findings view.kind macros redefined crossrefs) [] view.fields (assigned is.item.tree))
      → out ≡ with_findings w (findings_in_body db n)
  entry_written redefined crossrefs macros w keyed out repeated entry are macros_are repeats key_written written =
      let first : keyed ≡ with_findings w (key_findings view.key_at view.type_name (is_repeated (entries_of db) (entries_before db n)) view.key) =
      key_written ∙ ap (λ (b : Bool). with_findings w (key_findings view.key_at view.type_name b view.key)) repeats in
      written
      ∙ ap (λ (m : Macros). with_findings keyed (field_findings (defined_in view.kind) m (first_findings view.kind m redefined crossrefs) [] view.fields (assigned is.item.tree))) macros_are
      ∙ ap (λ (k : Written). with_findings k (view_findings db n redefined crossrefs view is.item.tree)) first
      ∙ findings_append w (key_findings view.key_at view.type_name (is_repeated (entries_of db) (entries_before db n)) view.key) (view_findings db n redefined crossrefs view is.item.tree)
      ∙ ap (with_findings w) (entry_found redefined crossrefs entry are)

  -- the lines of the body, and then those of the trail
  pub item_written : (w body out : Written) → body ≡ with_findings w (findings_in_body db n) → out ≡ with_findings body (trail_findings is.item)
      → out ≡ with_findings w (findings_on db n)
  item_written w body out body_written written =
      let trail : findings_in_trail db n ≡ trail_findings is.item = rw is.at refl in
      written
      ∙ ap (λ (b : Written). with_findings b (trail_findings is.item)) body_written
      ∙ findings_append w (findings_in_body db n) (trail_findings is.item)
      ∙ ap (λ (fs : List Finding). with_findings w (findings_in_body db n ++ fs)) (sym trail)
