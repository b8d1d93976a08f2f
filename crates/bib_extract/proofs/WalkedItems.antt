-- The walk over the items, from the last to the first.
use Rattle.std.proofs.Common.{◌≡◌, ℕ, zero, suc, ◌+◌, ◌<◌, ◌≤◌, Bool, List, [], ◌∷◌, ◌++◌, Some, slice_get, length, drop, set, refl, sym, ◌∙◌, ap, ap₂, subst, arith, add-zero, ◌-◌, ◌≢◌, not-suc-le-zero}
use Rattle.std.proofs.lemmas.List.{drop-set, drop_all, length-set}
use Rattle.std.proofs.lemmas.Option.{none-some, same_Some}
use Rattle.bib_spec.specs.Text.{Text}
use Rattle.bib_spec.specs.Tree.{Tree, CommentTree, DefinitionTree, PreambleTree, EntryTree}
use Rattle.bib_spec.specs.Reading.{Item}
use Rattle.bib_spec.specs.Texts.{Macros, macros_after, gathered}
use Rattle.bib_spec.specs.Records.{entry_in}
use Rattle.extract_spec.specs.Extract.{number_after, awaited, kept_from, names_before, stays}
use Rattle.extract_spec.specs.Needs.{number_at}
use Rattle.bib_scan.specs.declared.view.Kind.TheVariants as kind
use Rattle.bib_scan.specs.View.{kind_of}
use Rattle.bib_extract.specs.Awaited.{Map, HasNames}
use Rattle.bib_extract.proofs.WrittenItems.{drop-next}

-- the number of the next entry after an item
pub number-next : (n : ℕ) (items : List Item) (k : ℕ) (i : Item) → slice_get items k ≡ Some i → number_at n items (suc k) ≡ number_after (number_at n items k) i.tree
number-next n [] k i at = absurd (none-some i at)
number-next n (item ∷ []) zero i at = ap (λ (j : Item). number_after n j.tree) (same_Some item i at)
number-next n (item ∷ (next ∷ items)) zero i at = ap (λ (j : Item). number_after n j.tree) (same_Some item i at)
number-next n (item ∷ items) (suc k) i at = number-next (number_after n item.tree) items k i at

-- the number after the last entry
pub number-all : (m : Macros) (items : List Item) (n : ℕ) → number_at n items (length items) ≡ n + length (gathered entry_in m items)
number-all m [] n = sym (add-zero n)
number-all m (item ∷ items) n = number-all (macros_after m item.tree) items (number_after n item.tree) ∙ counted item.tree
  where
    counted : (tree : Tree) → number_after n tree + length (gathered entry_in (macros_after m tree) items) ≡ n + length (entry_in m tree ++ gathered entry_in (macros_after m tree) items)
    counted (CommentTree h) = refl
    counted (DefinitionTree d) = refl
    counted (PreambleTree p) = refl
    counted (EntryTree e) = omega arith

module _ (keeps : ℕ → Bool) where
  -- what is known before item k: the number n of the next entry, the names that are still to be defined, and which items are kept
  pub record IsWalkedTo (items : List Item) (k n : ℕ) (names : Map) (marks : List Bool) : Type 0 where
    pub within : k ≤ length items
    pub count : length marks ≡ length items
    pub number : n ≡ number_at 0 items k
    pub names_are : HasNames names (awaited keeps n (drop k items))
    pub marks_are : drop k marks ≡ kept_from keeps n (drop k items)

  -- the names that are awaited after an item, and before it
  abbrev pub after : List Item → ℕ → ℕ → List Text
  after items k n = awaited keeps n (drop (k + 1) items)

  pub walked-item : (items : List Item) (k n n' : ℕ) (names names' : Map) (marks : List Bool) (i : Item) (b : Bool) →
      slice_get items k ≡ Some i → k < length items → n' ≡ number_at 0 items k → b ≡ stays keeps n' (after items k n) i.tree →
      HasNames names' (names_before b i.tree (after items k n)) →
      IsWalkedTo items (k + 1) n names marks → IsWalkedTo items k n' names' (set marks k b)
  walked-item items k n n' names names' marks i b at lt number kept gone is =
      let next : number_after n' i.tree ≡ n = ap (λ m. number_after m i.tree) number ∙ sym (number-next 0 items k i at) ∙ ap (number_at 0 items) one_more ∙ sym is.number in
      let here = drop-next items k i at in
      record {
        within = omega (arith, lt);
        count = length-set marks k b ∙ is.count;
        number = number;
        names_are = subst (HasNames names') (ap (λ c. names_before c i.tree (after items k n)) kept
            ∙ ap (λ m. names_before (stays keeps n' (awaited keeps m (drop (k + 1) items)) i.tree) i.tree (awaited keeps m (drop (k + 1) items))) (sym next)
            ∙ ap (awaited keeps n') (sym here)) gone;
        marks_are = drop-set marks k b (subst (λ l. k < l) (sym is.count) lt)
            ∙ ap₂ ◌∷◌ kept is.marks_are
            ∙ ap (λ m. stays keeps n' (awaited keeps m (drop (k + 1) items)) i.tree ∷ kept_from keeps m (drop (k + 1) items)) (sym next)
            ∙ ap (kept_from keeps n') (sym here);
      }
    where
      one_more : suc k ≡ k + 1
      one_more = omega arith

pub walked-none : (keeps : ℕ → Bool) (items : List Item) (k n : ℕ) (names : Map) (marks : List Bool) → length items ≡ k → n ≡ number_at 0 items k → length marks ≡ length items → HasNames names [] →
    IsWalkedTo keeps items k n names marks
walked-none keeps items k n names marks all number count none = record {
  within = omega (arith, all);
  count = count;
  number = number;
  names_are = subst (λ is. HasNames names (awaited keeps n is)) (sym (drop_all k items (omega (arith, all)))) none;
  marks_are = drop_all k marks (omega (arith, all, count)) ∙ ap (kept_from keeps n) (sym (drop_all k items (omega (arith, all))));
}

number-first : (n : ℕ) (items : List Item) → number_at n items 0 ≡ n
number-first n [] = refl
number-first n (item ∷ items) = refl

-- the walk has reached the first item
pub walked-all : (keeps : ℕ → Bool) (items : List Item) (k n : ℕ) (names : Map) (marks : List Bool) → k ≤ 0 → IsWalkedTo keeps items k n names marks → marks ≡ kept_from keeps 0 items
walked-all keeps items zero n names marks end is =
    is.marks_are ∙ ap (λ m. kept_from keeps m items) (is.number ∙ number-first 0 items)
walked-all keeps items (suc k) n names marks end is = absurd (not-suc-le-zero end)

-- what is known before item k
pub walked-count : (keeps : ℕ → Bool) (items : List Item) (k j n : ℕ) (names : Map) (marks : List Bool) → j ≡ k → IsWalkedTo keeps items j n names marks → IsWalkedTo keeps items k n names marks
walked-count keeps items k j n names marks same is = subst (λ m. IsWalkedTo keeps items m n names marks) same is

-- tests that agree keep the same items
module _ (f g : ℕ → Bool) (agree : (n : ℕ) → f n ≡ g n) where
  stays-alike : (n : ℕ) (names : List Text) (tree : Tree) → stays f n names tree ≡ stays g n names tree
  stays-alike n names (CommentTree h) = refl
  stays-alike n names (DefinitionTree d) = refl
  stays-alike n names (PreambleTree p) = refl
  stays-alike n names (EntryTree e) = agree n

  awaited-alike : (n : ℕ) (items : List Item) → awaited f n items ≡ awaited g n items
  awaited-alike n [] = refl
  awaited-alike n (item ∷ items) =
      let m = number_after n item.tree in
      ap (λ names. names_before (stays f n names item.tree) item.tree names) (awaited-alike m items)
      ∙ ap (λ b. names_before b item.tree (awaited g m items)) (stays-alike n (awaited g m items) item.tree)

  pub kept-alike : (n : ℕ) (items : List Item) → kept_from f n items ≡ kept_from g n items
  kept-alike n [] = refl
  kept-alike n (item ∷ items) =
      let m = number_after n item.tree in
      ap₂ ◌∷◌ (ap (λ names. stays f n names item.tree) (awaited-alike m items) ∙ stays-alike n (awaited g m items) item.tree) (kept-alike m items)

pub length-kept : (keeps : ℕ → Bool) (n : ℕ) (items : List Item) → length (kept_from keeps n items) ≡ length items
length-kept keeps n [] = refl
length-kept keeps n (item ∷ items) = ap suc (length-kept keeps (number_after n item.tree) items)

-- the number before an entry, and before another item
pub number-before_entry : (tree : Tree) (n m : ℕ) → kind_of tree ≡ kind.Entry → n ≡ number_after m tree → n - 1 ≡ m
number-before_entry (CommentTree h) n m is at = cc
number-before_entry (DefinitionTree d) n m is at = cc
number-before_entry (PreambleTree p) n m is at = cc
number-before_entry (EntryTree e) n m is at = omega (arith, at)

pub number-before_other : (tree : Tree) (n m : ℕ) → kind_of tree ≢ kind.Entry → n ≡ number_after m tree → n ≡ m
number-before_other (CommentTree h) n m is at = at
number-before_other (DefinitionTree d) n m is at = at
number-before_other (PreambleTree p) n m is at = at
number-before_other (EntryTree e) n m is at = absurd (is refl)
