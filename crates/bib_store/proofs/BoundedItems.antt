-- What is known of all items, when one comes or goes.
use Rattle.bib_store.proofs.Words.{◌≡◌, ℕ, ◌≤◌, Bool, true, false, ◌&&◌, List, [], ◌∷◌, ◌++◌, refl, sym, ◌∙◌, ap, arith, both_ways, Text, folded, Definition, DefinitionTree, PreambleTree, Preamble, CommentTree, Macros, macros_in, raw_text, Bounds, IsSettled, IsBounded, AreBounded, Admits}
use Rattle.bib_spec.specs.Tree.{Head}
use Rattle.bib_spec.specs.Reading.{Item}

-- ---- items

pub bounded_with : (b : Bounds) (before after : List Item) (x : Item) → AreBounded b (before ++ after) → IsBounded b x.tree → AreBounded b (before ++ x ∷ after)
bounded_with b [] after x all one = (one, all)
bounded_with b (i ∷ before) after x all one = (all.0, bounded_with b before after x all.1 one)

pub bounded_without : (b : Bounds) (before after : List Item) (x : Item) → AreBounded b (before ++ x ∷ after) → AreBounded b (before ++ after)
bounded_without b [] after x all = all.1
bounded_without b (i ∷ before) after x all = (all.0, bounded_without b before after x all.1)

pub bounded_after : (b : Bounds) (before after : List Item) → AreBounded b (before ++ after) → AreBounded b after
bounded_after b [] after all = all
bounded_after b (i ∷ before) after all = bounded_after b before after all.1

-- ---- one more

both_true : (a b : Bool) → (a && b) ≡ true → (a ≡ true) × (b ≡ true)
both_true true b e = (refl, e)
both_true false b e = absurd (both_ways false refl e)

pub admitted : (len : ℕ) (settled : Bool) (old new : Bounds) → new.settled ≡ (old.settled && settled) → old.longest_body ≤ new.longest_body → len ≤ new.longest_body → Admits len settled old new
admitted len settled old new both more fits = record {
  one = λ tree size says. record { body = omega (arith, size, fits); settled = λ t. says (both_true old.settled settled (sym both ∙ t)).1 };
  all = all;
}
  where
    all : (items : List Item) → AreBounded old items → AreBounded new items
    all [] are = tt
    all (i ∷ items) are =
        let first = are.0 in
        let body = first.body in
        (record { body = omega (arith, body, more); settled = λ t. first.settled (both_true old.settled settled (sym both ∙ t)).0 }, all items are.1)

-- ---- trees that are settled

pub settled_definition : (d : Definition) (text : Text) → ((m : Macros) → raw_text m d.assignment.value ≡ text) → IsSettled (DefinitionTree d)
settled_definition d text same = record {
  crossref = λ a b. refl;
  text = λ a b. ap (λ (t : Text). (folded d.assignment.name, t) ∷ []) (same (macros_in a (DefinitionTree d)) ∙ sym (same (macros_in b (DefinitionTree d))));
}

pub settled_preamble : (p : Preamble) → IsSettled (PreambleTree p)
settled_preamble p = record { crossref = λ a b. refl; text = λ a b. refl }

pub settled_comment : (h : Head) → IsSettled (CommentTree h)
settled_comment h = record { crossref = λ a b. refl; text = λ a b. refl }
