-- An entry comes after all items, and trails may change: what is said of the others stays.
use Rattle.bib_store.proofs.Words.{◌≡◌, ℕ, zero, suc, ◌+◌, cond, Bool, List, [], ◌∷◌, ◌++◌, length, map, Some, None, refl, sym, ◌∙◌, ap, ap₂, subst, arith, flat_map, option_or, none-some, map-append, All-head, All-tail, name_limit, Text, Tree, tree_bytes, IsItem, item_bytes, Macros, months}
use Rattle.bib_store.proofs.Words.{macros_after, macros_at, gathered, raw_texts_from, EntryTexts, entry_in, keys_of, crossref_text, tree_unique, Tables, is_entry_tree, definitions_alike, is_definition_tree, defined_by, Bounds, IsBounded, AreBounded, is_preamble_tree, IsTableOf, first_too_long}
use Rattle.bib_store.proofs.Words.{placed_texts, AreTablesOf, numbered, numbers}
use Rattle.std.proofs.Common.{append-nil}
use Rattle.std.specs.List.{All}
use Rattle.bib_spec.specs.Reading.{Item}
use Rattle.bib_store.proofs.RowTexts.{cons_parts}
use Rattle.bib_store.proofs.OneItemMore.{raw_texts-append, first-append}
use Rattle.bib_store.proofs.Placed.{first_of, first_kept, none_both, fit_parts, fit_joined}

-- ---- items that differ in their trails alone

abbrev pub trees : List Item → List Tree
trees items = map (λ (i : Item). i.tree) items

abbrev pub bodies : List Item → List Text
bodies items = map (λ (i : Item). tree_bytes i.tree) items

-- what stands before and after them stays
pub trees_between : (before xs ys after : List Item) → trees xs ≡ trees ys → trees (before ++ (xs ++ after)) ≡ trees (before ++ (ys ++ after))
trees_between before xs ys after e =
    let tree = λ (i : Item). i.tree in
    map-append tree before (xs ++ after)
    ∙ ap (λ (l : List Tree). trees before ++ l) (map-append tree xs after ∙ ap (λ (l : List Tree). l ++ trees after) e ∙ sym (map-append tree ys after))
    ∙ sym (map-append tree before (ys ++ after))

-- trees with the same bytes are the same
pub trees_of : (xs ys : List Item) → All (IsItem name_limit) xs → All (IsItem name_limit) ys → bodies xs ≡ bodies ys → trees xs ≡ trees ys
trees_of [] [] a b e = refl
trees_of [] (y ∷ ys) a b e = absurd (omega (arith, ap (length {A = Text}) e))
trees_of (x ∷ xs) [] a b e = absurd (omega (arith, ap (length {A = Text}) e))
trees_of (x ∷ xs) (y ∷ ys) a b e =
    let parts = cons_parts (tree_bytes x.tree) (tree_bytes y.tree) (bodies xs) (bodies ys) e in
    let one = tree_unique name_limit x.tree y.tree [] [] (All-head (IsItem name_limit) x xs a).tree (All-head (IsItem name_limit) y ys b).tree (λ c. refl) (λ c. refl)
    (append-nil (tree_bytes x.tree) ∙ parts.0 ∙ sym (append-nil (tree_bytes y.tree))) in
    ap₂ (λ (t : Tree) (ts : List Tree). t ∷ ts) one.0 (trees_of xs ys (All-tail (IsItem name_limit) x xs a) (All-tail (IsItem name_limit) y ys b) parts.1)

numbers_alike : (test : Tree → Bool) (k : ℕ) (xs ys : List Item) → trees xs ≡ trees ys → numbers test k xs ≡ numbers test k ys
numbers_alike test k [] [] e = refl
numbers_alike test k [] (y ∷ ys) e = absurd (omega (arith, ap (length {A = Tree}) e))
numbers_alike test k (x ∷ xs) [] e = absurd (omega (arith, ap (length {A = Tree}) e))
numbers_alike test k (x ∷ xs) (y ∷ ys) e =
    let parts = cons_parts x.tree y.tree (trees xs) (trees ys) e in
    let rest : List (ℕ × Item) = numbered test (k + 1) xs in
    ap (λ (b : Bool). first_of (cond b ((k, x) ∷ rest) rest)) (ap test parts.0)
    ∙ first_kept (test y.tree) (k, x) (k, y) rest (numbered test (k + 1) ys) refl (numbers_alike test (k + 1) xs ys parts.1)

gathered_alike : {X : Type 0} (say : Macros → Tree → List X) (m : Macros) (xs ys : List Item) → trees xs ≡ trees ys → gathered say m xs ≡ gathered say m ys
gathered_alike say m [] [] e = refl
gathered_alike say m [] (y ∷ ys) e = absurd (omega (arith, ap (length {A = Tree}) e))
gathered_alike say m (x ∷ xs) [] e = absurd (omega (arith, ap (length {A = Tree}) e))
gathered_alike say m (x ∷ xs) (y ∷ ys) e =
    let parts = cons_parts x.tree y.tree (trees xs) (trees ys) e in
    ap (λ (t : Tree). say m t ++ gathered say (macros_after m t) xs) parts.0
    ∙ ap (λ rest. say m y.tree ++ rest) (gathered_alike say (macros_after m y.tree) xs ys parts.1)

macros_alike : (m : Macros) (xs ys : List Item) (n : ℕ) → trees xs ≡ trees ys → macros_at m xs n ≡ macros_at m ys n
macros_alike m [] [] n e = refl
macros_alike m [] (y ∷ ys) n e = absurd (omega (arith, ap (length {A = Tree}) e))
macros_alike m (x ∷ xs) [] n e = absurd (omega (arith, ap (length {A = Tree}) e))
macros_alike m (x ∷ xs) (y ∷ ys) zero e = refl
macros_alike m (x ∷ xs) (y ∷ ys) (suc n) e =
    let parts = cons_parts x.tree y.tree (trees xs) (trees ys) e in
    ap (λ (t : Tree). macros_at (macros_after m t) xs n) parts.0 ∙ macros_alike (macros_after m y.tree) xs ys n parts.1

bounded_alike : (b : Bounds) (xs ys : List Item) → trees xs ≡ trees ys → AreBounded b xs → AreBounded b ys
bounded_alike b [] [] e all = tt
bounded_alike b [] (y ∷ ys) e all = absurd (omega (arith, ap (length {A = Tree}) e))
bounded_alike b (x ∷ xs) [] e all = absurd (omega (arith, ap (length {A = Tree}) e))
bounded_alike b (x ∷ xs) (y ∷ ys) e all =
    let parts = cons_parts x.tree y.tree (trees xs) (trees ys) e in
    (subst (IsBounded b) parts.0 all.0, bounded_alike b xs ys parts.1 all.1)

-- the tables do not see trails
pub tables_alike : (xs ys : List Item) (t : Tables) → trees xs ≡ trees ys → AreTablesOf xs t → AreTablesOf ys t
tables_alike xs ys t e are = record {
  entries = are.entries ∙ numbers_alike is_entry_tree 0 xs ys e;
  preambles = are.preambles ∙ numbers_alike is_preamble_tree 0 xs ys e;
  named = subst (λ (es : List EntryTexts). IsTableOf (keys_of es) (map crossref_text es) t.named) (gathered_alike entry_in months xs ys e) are.named;
  definitions = definitions_alike xs ys t.definitions (numbers_alike is_definition_tree 0 xs ys e) (gathered_alike defined_by months xs ys e) (λ n. macros_alike months xs ys n e) are.definitions;
  bounds = bounded_alike t.bounds xs ys e are.bounds;
}

-- nor do the limits of raw texts
pub fit_alike : (at there : ℕ) (m : Macros) (xs ys : List Item) → trees xs ≡ trees ys → first_too_long (raw_texts_from at m xs) ≡ None → first_too_long (raw_texts_from there m ys) ≡ None
fit_alike at there m [] [] e fits = refl
fit_alike at there m [] (y ∷ ys) e fits = absurd (omega (arith, ap (length {A = Tree}) e))
fit_alike at there m (x ∷ xs) [] e fits = absurd (omega (arith, ap (length {A = Tree}) e))
fit_alike at there m (x ∷ xs) (y ∷ ys) e fits =
    let parts = cons_parts x.tree y.tree (trees xs) (trees ys) e in
    let tail = fit_parts at m x xs fits in
    fit_joined there m y ys (subst (λ (t : Tree). first_too_long (placed_texts m t) ≡ None) parts.0 tail.0)
    (subst (λ (t : Tree). first_too_long (raw_texts_from (there + length (item_bytes y)) (macros_after m t) ys) ≡ None) parts.0
    (fit_alike (at + length (item_bytes x)) (there + length (item_bytes y)) (macros_after m x.tree) xs ys parts.1 tail.1))

-- ---- one item more, after all others

module _ (old new : List Item) (x : Item) (alike : trees new ≡ trees (old ++ x ∷ [])) where
  abbrev here : Macros
  here = macros_at months old (length old)

  pub appended_tables : (t : Tables) → AreTablesOf (old ++ x ∷ []) t → AreTablesOf new t
  appended_tables t are = tables_alike (old ++ x ∷ []) new t (sym alike) are

  pub appended_fits : (at there : ℕ) → first_too_long (raw_texts_from at months old) ≡ None → first_too_long (placed_texts here x.tree) ≡ None → first_too_long (raw_texts_from there months new) ≡ None
  appended_fits at there fits fit =
      let start : ℕ = at + length (flat_map item_bytes old) in
      fit_alike at there months (old ++ x ∷ []) new (sym alike)
      (ap first_too_long (raw_texts-append at months old (x ∷ []))
      ∙ first-append (raw_texts_from at months old) (raw_texts_from start here (x ∷ []))
      ∙ ap₂ option_or fits (fit_joined start here x [] fit refl))

  pub appended_over : (there place : ℕ) → first_too_long (placed_texts here x.tree) ≡ Some place → first_too_long (raw_texts_from there months new) ≡ None → ⊥
  appended_over there place over fits =
      let start : ℕ = there + length (flat_map item_bytes old) in
      let parts = none_both (first_too_long (raw_texts_from there months old)) (first_too_long (raw_texts_from start here (x ∷ [])))
      (sym (first-append (raw_texts_from there months old) (raw_texts_from start here (x ∷ []))) ∙ sym (ap first_too_long (raw_texts-append there months old (x ∷ [])))
      ∙ fit_alike there there months new (old ++ x ∷ []) alike fits) in
      none-some place (sym (fit_parts start here x [] parts.1).0 ∙ over)
