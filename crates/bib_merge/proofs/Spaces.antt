-- Only white space follows a unit.
use Rattle.std.proofs.Common.{◌≡◌, None, ℕ, suc, ◌+◌, arith, Bool, true, false, not, cond, if◌then◌else◌, List, [], ◌∷◌, take, drop, ◌&&◌, ◌||◌, refl, sym, ◌∙◌, ap, ap₂, ⊎_elim}
use Rattle.std.specs.List.{list_all, list_any, prefix_len}
use Rattle.std.proofs.lemmas.Bool.{cases_Bool, true≢false}
use Rattle.std.proofs.lemmas.List.Folds.{list_all-append}
use Rattle.bib_spec.specs.Text.{Text, is_space, after_run}
use Rattle.bib_spec.specs.Tree.{Tree, CommentTree, DefinitionTree, PreambleTree, EntryTree}
use Rattle.bib_spec.specs.Reading.{Item, Reading}
use Rattle.bib_spec.specs.Texts.{Macros, is_empty, months, macros_after}
use Rattle.bib_text.specs.Trimming.{up_to_last, before_run}
use Rattle.merge_spec.specs.Units.{Spaced, end_space, text_units, units_in, units_from, spaced_of}

-- only white space follows
abbrev pub ends_in_space : Spaced → Bool
ends_in_space s = list_all is_space s.space

-- the elements before the first that fails all pass
front_passes : {X : Type 0} (test : X → Bool) (xs : List X) → list_all test (take (prefix_len test xs) xs) ≡ true
front_passes test [] = refl
front_passes test (x ∷ xs) =
    ⊎_elim (λ e. ap (λ b. list_all test (take (cond b (1 + prefix_len test xs) 0) (x ∷ xs))) e
    ∙ ap (λ n. list_all test (take n (x ∷ xs))) (one_more (prefix_len test xs)) ∙ ap₂ (λ a b. a && b) e (front_passes test xs))
    (λ e. ap (λ b. list_all test (take (cond b (1 + prefix_len test xs) 0) (x ∷ xs))) e)
    (cases_Bool (test x))
  where
    one_more : (n : ℕ) → 1 + n ≡ suc n
    one_more n = omega arith

-- if no element fails, all pass
none_fails : {X : Type 0} (test : X → Bool) (xs : List X) → list_any (λ x. not (test x)) xs ≡ false → list_all test xs ≡ true
none_fails test [] none = refl
none_fails test (x ∷ xs) none =
    ⊎_elim (λ e. ap₂ (λ a b. a && b) e (none_fails test xs (sym (ap (λ b. not b || list_any (λ y. not (test y)) xs) e) ∙ none)))
    (λ e. absurd (true≢false (sym (ap (λ b. not b || list_any (λ y. not (test y)) xs) e) ∙ none)))
    (cases_Bool (test x))

-- the elements after the last that fails all pass
back_passes : {X : Type 0} (test : X → Bool) (xs : List X) → list_all test (drop (up_to_last (λ x. not (test x)) xs) xs) ≡ true
back_passes test [] = refl
back_passes test (x ∷ xs) =
    ⊎_elim (λ e. ap (λ b. list_all test (drop (cond b (suc (up_to_last (λ y. not (test y)) xs)) 0) (x ∷ xs))) e ∙ back_passes test xs)
    (λ e. ap (λ b. list_all test (drop (cond b (suc (up_to_last (λ y. not (test y)) xs)) 0) (x ∷ xs))) e ∙ none_fails test (x ∷ xs) e)
    (cases_Bool (list_any (λ y. not (test y)) (x ∷ xs)))

text_spaces : (macros : Macros) (t rest : Text) → after_run is_space t ≡ rest → list_all ends_in_space (text_units macros t) ≡ true
text_spaces macros t [] e = ap (λ r. list_all ends_in_space (if is_empty r then [] else record { unit = record { tree = None; text = before_run is_space r; macros = macros }; space = end_space r } ∷ [])) e
text_spaces macros t (b ∷ rest) e =
    ap (λ r. list_all ends_in_space (if is_empty r then [] else record { unit = record { tree = None; text = before_run is_space r; macros = macros }; space = end_space r } ∷ [])) e
    ∙ ap (λ x. x && true) (back_passes is_space (b ∷ rest))

item_spaces : (macros : Macros) (tree : Tree) (trail : Text) → list_all ends_in_space (units_in macros tree trail) ≡ true
item_spaces macros (CommentTree h) trail = ap (λ x. x && true) (back_passes is_space trail)
item_spaces macros (DefinitionTree d) trail = ap₂ (λ a b. a && b) (front_passes is_space trail) (text_spaces (macros_after macros (DefinitionTree d)) trail _ refl)
item_spaces macros (PreambleTree p) trail = ap₂ (λ a b. a && b) (front_passes is_space trail) (text_spaces macros trail _ refl)
item_spaces macros (EntryTree e) trail = ap₂ (λ a b. a && b) (front_passes is_space trail) (text_spaces macros trail _ refl)

items_spaces : (macros : Macros) (items : List Item) → list_all ends_in_space (units_from macros items) ≡ true
items_spaces macros [] = refl
items_spaces macros (item ∷ items) =
    list_all-append ends_in_space (units_in macros item.tree item.trail) (units_from (macros_after macros item.tree) items)
    ∙ ap₂ (λ a b. a && b) (item_spaces macros item.tree item.trail) (items_spaces (macros_after macros item.tree) items)

-- only white space follows each unit of a file
pub units-end_in_space : (db : Reading) → list_all ends_in_space (spaced_of db) ≡ true
units-end_in_space db =
    list_all-append ends_in_space (text_units months db.front) (units_from months db.items)
    ∙ ap₂ (λ a b. a && b) (text_spaces months db.front _ refl) (items_spaces months db.items)
