-- The kept items have their needs, and no more.
use Rattle.std.proofs.Common.{◌≡◌, ◌⊎◌, ℕ, zero, suc, ◌||◌, ◌++◌, Bool, true, false, not, cond, List, [], ◌∷◌, Option, Some, None, filter, slice_get, ⊎_elim, inl, inr, refl, sym, ◌∙◌, ap, subst}
use Rattle.std.specs.List.{list_any}
use Rattle.std.specs.Str.{bytes_eq}
use Rattle.std.specs.Option.{option_map_or}
use Rattle.std.proofs.lemmas.Bool.{cases_Bool, cond-true, cond-false, false≢true}
use Rattle.std.proofs.lemmas.List.Folds.{list_any-append}
use Rattle.std.proofs.lemmas.Option.{none-some, same_Some}
use Rattle.bib_spec.specs.Text.{Text, folded, same}
use Rattle.bib_spec.specs.Tree.{Tree, CommentTree, DefinitionTree, PreambleTree, EntryTree}
use Rattle.bib_spec.specs.Reading.{Item}
use Rattle.bib_spec.proofs.Keys.{option_cases}
use Rattle.bib_spec.proofs.Names.{same-true, true-same}
use Rattle.extract_spec.specs.Extract.{without, without_defined, used_by, number_after, stays, names_before, awaited}
use Rattle.extract_spec.specs.Needs.{defines_name, definition_before, number_at, HasItsNeeds, is_kept_at, kept_have_needs, kept_are_least}
use Rattle.extract_spec.proofs.ExtractSays.{in_left, in_right, in_without}

-- ---- names

-- a name that stays in the list is another than the one that is left out
stays_in : (left x : Text) (names : List Text) → list_any (same x) (without left names) ≡ true → (list_any (same x) names ≡ true) × (same left x ≡ false)
stays_in left x [] e = absurd (false≢true e)
stays_in left x (y ∷ names) e =
    let rest = filter (λ name. not (same left name)) names in ⊎_elim
    (λ out.
    let later = stays_in left x names (sym (ap (list_any (same x)) (cond-false (not (same left y)) (y ∷ rest) rest (ap not out))) ∙ e) in
    (in_right (same x) (y ∷ []) names later.0, later.1))
    (λ stay.
    let there = sym (ap (list_any (same x)) (cond-true (not (same left y)) (y ∷ rest) rest (ap not stay))) ∙ e in ⊎_elim
    (λ s. (
      ap (λ b. b || list_any (same x) names) s,
      ⊎_elim
          (λ t. absurd (false≢true (sym stay ∙ true-same left y (same-true left x t ∙ same-true x y s))))
          (λ f. f)
          (cases_Bool (same left x)),
    ))
    (λ d.
    let later = stays_in left x names (sym (ap (λ b. b || list_any (same x) rest) d) ∙ there) in
    (ap (λ b. b || list_any (same x) names) d ∙ later.0, later.1))
    (cases_Bool (same x y)))
    (cases_Bool (same left y))

not_defined : (x : Text) (tree : Tree) (names : List Text) → list_any (same x) (without_defined tree names) ≡ true → (list_any (same x) names ≡ true) × (defines_name x tree ≡ false)
not_defined x (CommentTree h) names e = (e, refl)
not_defined x (DefinitionTree d) names e = stays_in d.assignment.name x names e
not_defined x (PreambleTree p) names e = (e, refl)
not_defined x (EntryTree t) names e = (e, refl)

still_awaited : (x : Text) (tree : Tree) (names : List Text) → list_any (same x) names ≡ true → defines_name x tree ≡ false → list_any (same x) (without_defined tree names) ≡ true
still_awaited x (CommentTree h) names e other = e
still_awaited x (DefinitionTree d) names e other = in_without d.assignment.name x names other e
still_awaited x (PreambleTree p) names e other = e
still_awaited x (EntryTree t) names e other = e

module _ (keeps : ℕ → Bool) where
  defined_stays : (n : ℕ) (x : Text) (tree : Tree) (names : List Text) → defines_name x tree ≡ true → list_any (same x) names ≡ true → stays keeps n names tree ≡ true
  defined_stays n x (CommentTree h) names d e = absurd (false≢true d)
  defined_stays n x (DefinitionTree it) names d e = ap (λ f. list_any (λ y. bytes_eq f (folded y)) names) (same-true it.assignment.name x d) ∙ e
  defined_stays n x (PreambleTree p) names d e = absurd (false≢true d)
  defined_stays n x (EntryTree t) names d e = absurd (false≢true d)

  -- why an item stays
  why_it_stays : (n : ℕ) (tree : Tree) (names : List Text) → stays keeps n names tree ≡ true →
      (stays keeps n [] tree ≡ true) ⊎ ((x : Text) × (defines_name x tree ≡ true) × (list_any (same x) names ≡ true))
  why_it_stays n (CommentTree h) names e = absurd (false≢true e)
  why_it_stays n (DefinitionTree d) names e = inr (d.assignment.name, true-same d.assignment.name d.assignment.name refl, e)
  why_it_stays n (PreambleTree p) names e = inl refl
  why_it_stays n (EntryTree t) names e = inl e

  stays_alone : (n : ℕ) (tree : Tree) (names : List Text) → stays keeps n [] tree ≡ true → stays keeps n names tree ≡ true
  stays_alone n (CommentTree h) names e = e
  stays_alone n (DefinitionTree d) names e = absurd (false≢true e)
  stays_alone n (PreambleTree p) names e = e
  stays_alone n (EntryTree t) names e = e

  -- a name is awaited only for a kept item that uses it
  awaited_used : (n : ℕ) (items : List Item) (x : Text) → list_any (same x) (awaited keeps n items) ≡ true →
      (j : ℕ) × (item : Item) × (slice_get items j ≡ Some item) × (is_kept_at keeps n items j ≡ true) × (list_any (same x) (used_by item.tree) ≡ true) × (definition_before items j x ≡ None)
  awaited_used n [] x e = absurd (false≢true e)
  awaited_used n (item ∷ items) x e =
      let names = awaited keeps (number_after n item.tree) items in
      let F : Option ℕ → Option ℕ = λ o. option_map_or (λ i. Some (suc i)) o (cond (defines_name x item.tree) (Some 0) None) in ⊎_elim
      (λ s.
      let there : list_any (same x) (used_by item.tree ++ without_defined item.tree names) ≡ true = ap (λ b. list_any (same x) (names_before b item.tree names)) (sym s) ∙ e in ⊎_elim
      (λ used. (0, item, refl, s, used, refl))
      (λ unused.
      let its = not_defined x item.tree names
      (sym (list_any-append (same x) (used_by item.tree) (without_defined item.tree names) ∙ ap (λ b. b || list_any (same x) (without_defined item.tree names)) unused) ∙ there) in
      let later = awaited_used (number_after n item.tree) items x its.0 in
      (suc later.0, later.1, later.2, later.3, later.4, ap F later.5 ∙ cond-false (defines_name x item.tree) (Some 0) None its.1))
      (cases_Bool (list_any (same x) (used_by item.tree))))
      (λ s.
      let there : list_any (same x) names ≡ true = ap (λ b. list_any (same x) (names_before b item.tree names)) (sym s) ∙ e in
      let later = awaited_used (number_after n item.tree) items x there in
      let other : defines_name x item.tree ≡ false = ⊎_elim
      (λ d. absurd (false≢true (sym s ∙ defined_stays n x item.tree names d there)))
      (λ f. f)
      (cases_Bool (defines_name x item.tree)) in
      (suc later.0, later.1, later.2, later.3, later.4, ap F later.5 ∙ cond-false (defines_name x item.tree) (Some 0) None other))
      (cases_Bool (stays keeps n names item.tree))

  -- a name that a kept item uses, and that nothing defines before it, is awaited
  used_awaited : (n : ℕ) (items : List Item) (j : ℕ) (it : Item) (x : Text) → slice_get items j ≡ Some it → is_kept_at keeps n items j ≡ true → list_any (same x) (used_by it.tree) ≡ true →
      definition_before items j x ≡ None → list_any (same x) (awaited keeps n items) ≡ true
  used_awaited n [] j it x at kept used none = absurd (none-some it at)
  used_awaited n (item ∷ items) zero it x at kept used none =
      let names = awaited keeps (number_after n item.tree) items in
      ap (λ b. list_any (same x) (names_before b item.tree names)) kept
      ∙ in_left (same x) (used_by item.tree) (without_defined item.tree names) (ap (λ i. list_any (same x) (used_by i.tree)) (same_Some item it at) ∙ used)
  used_awaited n (item ∷ items) (suc j) it x at kept used none =
      let names = awaited keeps (number_after n item.tree) items in
      let F : Option ℕ → Option ℕ = λ o. option_map_or (λ i. Some (suc i)) o (cond (defines_name x item.tree) (Some 0) None) in ⊎_elim
      (λ nowhere.
      let there = used_awaited (number_after n item.tree) items j it x at kept used nowhere in ⊎_elim
      (λ d. absurd (none-some 0 (sym none ∙ ap F nowhere ∙ cond-true (defines_name x item.tree) (Some 0) None d)))
      (λ other. ⊎_elim
      (λ s. ap (λ b. list_any (same x) (names_before b item.tree names)) s
      ∙ in_right (same x) (used_by item.tree) (without_defined item.tree names) (still_awaited x item.tree names there other))
      (λ s. ap (λ b. list_any (same x) (names_before b item.tree names)) s ∙ there)
      (cases_Bool (stays keeps n names item.tree)))
      (cases_Bool (defines_name x item.tree)))
      (λ some. absurd (none-some (suc some.0) (sym none ∙ ap F some.1)))
      (option_cases (definition_before items j x))

  -- the set without its first position, for the items after the first
  tail_has : (n : ℕ) (item : Item) (items : List Item) (set : ℕ → Bool) → HasItsNeeds keeps n (item ∷ items) set → HasItsNeeds keeps (number_after n item.tree) items (λ i. set (suc i))
  tail_has n item items set has = record {
    alone = λ i it at own. has.alone (suc i) it at own;
    uses = λ i j it name in_set at used defined. has.uses (suc i) (suc j) it name in_set at used (ap (λ o. option_map_or (λ i. Some (suc i)) o (cond (defines_name name item.tree) (Some 0) None)) defined);
  }

  least : (n : ℕ) (items : List Item) (set : ℕ → Bool) → HasItsNeeds keeps n items set → (i : ℕ) → is_kept_at keeps n items i ≡ true → set i ≡ true
  least n [] set has i e = absurd (false≢true e)
  least n (item ∷ items) set has zero e =
      let names = awaited keeps (number_after n item.tree) items in ⊎_elim
      (λ own. has.alone 0 item refl own)
      (λ why.
      let user = awaited_used (number_after n item.tree) items why.0 why.2 in
      let F : Option ℕ → Option ℕ = λ o. option_map_or (λ i. Some (suc i)) o (cond (defines_name why.0 item.tree) (Some 0) None) in
      has.uses 0 (suc user.0) user.1 why.0
      (least (number_after n item.tree) items (λ i. set (suc i)) (tail_has n item items set has) user.0 user.3)
      user.2 user.4 (ap F user.5 ∙ cond-true (defines_name why.0 item.tree) (Some 0) None why.1))
      (why_it_stays n item.tree names e)
  least n (item ∷ items) set has (suc i) e =
      least (number_after n item.tree) items (λ i. set (suc i)) (tail_has n item items set has) i e

  kept_alone : (n : ℕ) (items : List Item) (i : ℕ) (it : Item) → slice_get items i ≡ Some it → stays keeps (number_at n items i) [] it.tree ≡ true → is_kept_at keeps n items i ≡ true
  kept_alone n [] i it at own = absurd (none-some it at)
  kept_alone n (item ∷ items) zero it at own =
      stays_alone n item.tree (awaited keeps (number_after n item.tree) items) (ap (λ i. stays keeps n [] i.tree) (same_Some item it at) ∙ own)
  kept_alone n (item ∷ items) (suc i) it at own = kept_alone (number_after n item.tree) items i it at own

  kept_uses : (n : ℕ) (items : List Item) (i j : ℕ) (it : Item) (x : Text) → is_kept_at keeps n items j ≡ true → slice_get items j ≡ Some it → list_any (same x) (used_by it.tree) ≡ true →
      definition_before items j x ≡ Some i → is_kept_at keeps n items i ≡ true
  kept_uses n [] i j it x kept at used defined = absurd (none-some it at)
  kept_uses n (item ∷ items) i zero it x kept at used defined = absurd (none-some i defined)
  kept_uses n (item ∷ items) i (suc j) it x kept at used defined =
      let later = number_after n item.tree in
      let names = awaited keeps (number_after n item.tree) items in
      let F : Option ℕ → Option ℕ = λ o. option_map_or (λ i. Some (suc i)) o (cond (defines_name x item.tree) (Some 0) None) in ⊎_elim
      (λ nowhere. ⊎_elim
      (λ d. subst (λ i. is_kept_at keeps n (item ∷ items) i ≡ true)
      (same_Some 0 i (sym (ap F nowhere ∙ cond-true (defines_name x item.tree) (Some 0) None d) ∙ defined))
      (defined_stays n x item.tree names d (used_awaited (number_after n item.tree) items j it x at kept used nowhere)))
      (λ other. absurd (none-some i (sym (ap F nowhere ∙ cond-false (defines_name x item.tree) (Some 0) None other) ∙ defined)))
      (cases_Bool (defines_name x item.tree)))
      (λ some. subst (λ i. is_kept_at keeps n (item ∷ items) i ≡ true) (same_Some (suc some.0) i (sym (ap F some.1) ∙ defined))
      (kept_uses (number_after n item.tree) items some.0 j it x kept at used some.1))
      (option_cases (definition_before items j x))

pub kept-have_needs : kept_have_needs
kept-have_needs keeps n items = record {
  alone = kept_alone keeps n items;
  uses = λ i j it x kept at used defined. kept_uses keeps n items i j it x kept at used defined;
}

pub kept-are_least : kept_are_least
kept-are_least keeps n items set has i e = least keeps n items set has i e
