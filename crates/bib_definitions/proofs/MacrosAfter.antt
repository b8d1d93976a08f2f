-- What macros stand for, and what is gathered under them, when items come before others.
use Rattle.bib_definitions.proofs.Words.{◌≡◌, true, false, ℕ, zero, suc, ◌≤◌, List, [], ◌∷◌, ◌++◌, length, take, refl, sym, ◌∙◌, ap, arith, append_assoc, both_ways, Tree, CommentTree, DefinitionTree, PreambleTree, EntryTree, Item, Macros, macros_after, macros_at, gathered, is_definition_tree}
use Rattle.std.proofs.Common.{not-suc-le-zero, le_of_suc-le-suc}

-- an item that is no definition leaves the macros as they are
pub after_other : (m : Macros) (tree : Tree) → is_definition_tree tree ≡ false → macros_after m tree ≡ m
after_other m (CommentTree h) other = refl
after_other m (PreambleTree p) other = refl
after_other m (EntryTree e) other = refl
after_other m (DefinitionTree d) other = absurd (both_ways true other refl)

-- what stands after an item does not change what it sees
pub macros_in_front : (m : Macros) (before after : List Item) (j : ℕ) → j ≤ length before → macros_at m (before ++ after) j ≡ macros_at m before j
macros_in_front m before after zero h = refl
macros_in_front m [] after (suc j) h = absurd (omega (arith, h))
macros_in_front m (x ∷ before) after (suc j) h = macros_in_front (macros_after m x.tree) before after j (omega (arith, h))

-- what follows does not change what macros stand for
pub macros_taken : (m : Macros) (items : List Item) (k n : ℕ) → k ≤ n → macros_at m (take n items) k ≡ macros_at m items k
macros_taken m items zero n h = refl
macros_taken m items (suc k) zero h = absurd (not-suc-le-zero h)
macros_taken m [] (suc k) (suc n) h = refl
macros_taken m (x ∷ items) (suc k) (suc n) h = macros_taken (macros_after m x.tree) items k n (le_of_suc-le-suc h)

-- what is said of items, and of others after them
pub gathered-append : {X : Type 0} (say : Macros → Tree → List X) (m : Macros) (items more : List Item)
    → gathered say m (items ++ more) ≡ gathered say m items ++ gathered say (macros_at m items (length items)) more
gathered-append say m [] more = refl
gathered-append say m (item ∷ items) more =
    ap (λ rest. say m item.tree ++ rest) (gathered-append say (macros_after m item.tree) items more)
    ∙ sym (append_assoc (say m item.tree) (gathered say (macros_after m item.tree) items) (gathered say (macros_at (macros_after m item.tree) items (length items)) more))
