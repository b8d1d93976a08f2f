-- The names of lost uses, as they are told one after another.
use Rattle.std.proofs.Common.{◌≡◌, ◌≢◌, ℕ, ◌+◌, Bool, true, false, cond, if◌then◌else◌, List, [], ◌∷◌, ◌++◌, Option, Some, map, filter, fold, slice_get, get_or, take, length, ◌<◌, ◌≤◌, ◌==◌, arith, ap₂, subst, refl, sym, ◌∙◌, ap}
use Rattle.std.proofs.lemmas.Bool.{eqb-true, cond-true, cond-false}
use Rattle.std.proofs.lemmas.List.{map-append, get_or-map, take_more, take_all, length-map}
use Rattle.std.proofs.lemmas.List.Elements.{filter-append}
use Rattle.std.proofs.lemmas.List.Sums.{fold-append}
use Rattle.std.specs.Option.{option_map_or}
use Rattle.bib_spec.specs.Text.{Text, folded}
use Rattle.bib_spec.specs.Tree.{Entry, Tree, CommentTree, DefinitionTree, PreambleTree, EntryTree}
use Rattle.bib_spec.specs.Reading.{Item, Reading}
use Rattle.bib_scan.specs.View.{kind_of}
use Rattle.bib_scan.specs.declared.view.Kind.TheVariants as kind
use Rattle.merge_spec.specs.Merged.{is_number}
use Rattle.bib_uses.specs.Uses.{Use}
use Rattle.bib_uses.specs.Lost.{item_named, with_name, each_once, lost_names, lost_use, lost_in, lost_at}
use Rattle.bib_uses.specs.Seen.{use_seen}
use Rattle.bib_uses.specs.declared.uses.UseView.{UseView}

-- the names of the uses that pass, each once
abbrev pub told : (Use → Bool) → List Use → List Text
told test uses = each_once (map (λ u. folded u.used) (filter test uses))

module _ (test : Use → Bool) (uses : List Use) (u : Use) where
  more : told test (uses ++ u ∷ []) ≡ fold with_name (told test uses) (map (λ u. folded u.used) (cond (test u) (u ∷ []) []))
  more =
      ap (λ (l : List Use). each_once (map (λ u. folded u.used) l)) (filter-append test uses (u ∷ []))
      ∙ ap each_once (map-append (λ u. folded u.used) (filter test uses) (cond (test u) (u ∷ []) []))
      ∙ fold-append with_name [] (map (λ u. folded u.used) (filter test uses)) (map (λ u. folded u.used) (cond (test u) (u ∷ []) []))

  -- a use more
  pub told-step : told test (uses ++ u ∷ []) ≡ (if test u then with_name (told test uses) (folded u.used) else told test uses)
  told-step = more ∙ at (test u)
    where
      at : (b : Bool) → fold with_name (told test uses) (map (λ u. folded u.used) (cond b (u ∷ []) [])) ≡ (if b then with_name (told test uses) (folded u.used) else told test uses)
      at true = refl
      at false = refl

-- the next of the uses in the code
pub told-next : (test : Use → Bool) (seen : List UseView) (k : ℕ) (d : UseView) (names new : List Text) (lost : Bool) → k < length seen → lost ≡ test (use_seen (get_or seen k d)) → names ≡ told test (take k (map use_seen seen)) →
    new ≡ (if lost then with_name names (folded (get_or seen k d).used.now) else names) → new ≡ told test (take (k + 1) (map use_seen seen))
told-next test seen k d names new lost within is so_far are =
    are
    ∙ ap₂ (λ (b : Bool) (l : List Text). if b then with_name l (folded (get_or seen k d).used.now) else l) is so_far
    ∙ sym (told-step test (take k (map use_seen seen)) (use_seen (get_or seen k d)))
    ∙ ap (λ (u : Use). told test (take k (map use_seen seen) ++ u ∷ [])) (sym (get_or-map use_seen seen k d (use_seen d) within))
    ∙ ap (told test) (sym (take_more (map use_seen seen) k (use_seen d) (subst (λ (n : ℕ). k < n) (sym (length-map seen use_seen)) within)))

-- all of them
pub told-all : (test : Use → Bool) (seen : List UseView) (k : ℕ) (names : List Text) → length seen ≤ k → names ≡ told test (take k (map use_seen seen)) → names ≡ told test (map use_seen seen)
told-all test seen k names past so_far = so_far ∙ ap (told test) (take_all k (map use_seen seen) (subst (λ (n : ℕ). n ≤ k) (sym (length-map seen use_seen)) past))

-- ---- an entry

-- without uses none is lost
pub none-told : (test : Use → Bool) (seen : List UseView) (uses : List Use) → true ≡ (length seen == 0) → map use_seen seen ≡ uses → [] ≡ told test uses
none-told test [] uses none are = ap (told test) are
none-told test (u ∷ seen) uses none are = absurd (omega (arith, eqb-true (length (u ∷ seen)) 0 (sym none)))

-- the lost uses of an entry that its key finds, and of another
pub found-lost : (ro rt rm : Reading) (n : ℕ) (e : Entry) (found : Bool) (names : List Text) → found ≡ is_number n (item_named rm e.key) → found ≡ true → names ≡ lost_names ro rt rm e.key n → map (lost_use e.key) names ≡ lost_in ro rt rm n (EntryTree e)
found-lost ro rt rm n e found names is yes_found are =
    ap (map (lost_use e.key)) are ∙ sym (cond-true (is_number n (item_named rm e.key)) (map (lost_use e.key) (lost_names ro rt rm e.key n)) [] (sym is ∙ yes_found))

pub other-lost : (ro rt rm : Reading) (n : ℕ) (e : Entry) (found : Bool) → found ≡ is_number n (item_named rm e.key) → found ≡ false → [] ≡ lost_in ro rt rm n (EntryTree e)
other-lost ro rt rm n e found is no_found = sym (cond-false (is_number n (item_named rm e.key)) (map (lost_use e.key) (lost_names ro rt rm e.key n)) [] (sym is ∙ no_found))

-- ---- an item

-- the lost uses of an item are those of its tree
pub lost-item : (ro rt rm : Reading) (n : ℕ) (i : Item) → slice_get rm.items n ≡ Some i → lost_at ro rt rm n ≡ lost_in ro rt rm n i.tree
lost-item ro rt rm n i at = ap (λ (o : Option Item). option_map_or (λ item. lost_in ro rt rm n item.tree) o []) at

-- only an entry has any
pub other-item : (ro rt rm : Reading) (n : ℕ) (tree : Tree) → kind_of tree ≢ kind.Entry → lost_in ro rt rm n tree ≡ []
other-item ro rt rm n (CommentTree h) other = refl
other-item ro rt rm n (DefinitionTree d) other = refl
other-item ro rt rm n (PreambleTree p) other = refl
other-item ro rt rm n (EntryTree e) other = absurd (other refl)

-- an item that is seen as an entry is one
pub entry-item : (tree : Tree) → kind_of tree ≡ kind.Entry → (e : Entry) × (tree ≡ EntryTree e)
entry-item (CommentTree h) is = cc
entry-item (DefinitionTree d) is = cc
entry-item (PreambleTree p) is = cc
entry-item (EntryTree e) is = (e, refl)
