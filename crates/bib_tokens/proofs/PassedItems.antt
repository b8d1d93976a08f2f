-- Items that a search passes over, since none of them has a part that is sought.
use Rattle.bib_tokens.proofs.Words.{◌≡◌, ℕ, ◌+◌, ◌-◌, ◌≤◌, nat_lt, Bool, false, ◌||◌, List, [], ◌∷◌, ◌++◌, length, take, drop, refl, sym, ◌∙◌, ap, arith, flat_map, or-false, or_parts, ltb-false, flat_map-append, take-append-drop, list_any-append, Text, Part, Tree, Item, Reading, item_bytes}
use Rattle.bib_tokens.proofs.Words.{any_part, have_part, start_of, tree_placed, items_placed, tokens_of}
use Rattle.std.proofs.Common.{length-append}
use Rattle.std.specs.List.{between}
use Rattle.std.proofs.Math.Seq.{take-add}
use Rattle.std.proofs.lemmas.List.{drop-drop}
use Rattle.bib_tokens.proofs.PlacedFields.{tokens-append, tree-has}
use Rattle.bib_tokens.proofs.PlacedItems.{AreTokensTo}
use Rattle.bib_tokens.proofs.MetParts.{IsMetFrom}

take-both : {X : Type 0} (xs : List X) (k m : ℕ) → k ≤ m → take m xs ≡ take k xs ++ between k m xs
take-both xs k m low = let whole : m ≡ k + (m - k) = omega arith in ap (λ n. take n xs) whole ∙ take-add k (m - k) xs

drop-both : {X : Type 0} (xs : List X) (k m : ℕ) → k ≤ m → drop k xs ≡ between k m xs ++ drop m xs
drop-both xs k m low =
    let whole : k + (m - k) ≡ m = omega arith in
    sym (take-append-drop (m - k) (drop k xs)) ∙ ap (λ l. between k m xs ++ l) (drop-drop (m - k) k xs ∙ ap (λ n. drop n xs) whole)

start-pass : (db : Reading) (k m : ℕ) → k ≤ m → start_of db m ≡ start_of db k + length (flat_map item_bytes (between k m db.items))
start-pass db k m low =
    let parted : length (flat_map item_bytes (take m db.items)) ≡ length (flat_map item_bytes (take k db.items) ++ flat_map item_bytes (between k m db.items))
    = ap (λ l. length (flat_map item_bytes l)) (take-both db.items k m low) ∙ ap length (flat_map-append item_bytes (take k db.items) (between k m db.items)) in
    omega (arith, parted, length-append (flat_map item_bytes (take k db.items)) (flat_map item_bytes (between k m db.items)))

module _ (test : Part → Bool) where
  no-tokens : (at : ℕ) (tree : Tree) → any_part test tree ≡ false → tokens_of test (tree_placed at tree) ≡ []
  no-tokens at tree none = is_none (tokens_of test (tree_placed at tree)) (tree-has test at tree ∙ none)
    where
      is_none : (l : List (ℕ × Text)) → nat_lt 0 (length l) ≡ false → l ≡ []
      is_none [] e = refl
      is_none (x ∷ l) e = let past = ltb-false 0 (length (x ∷ l)) e in absurd (omega (arith, past))

  unmet-tokens : (at : ℕ) (front rest : List Item) → have_part test front ≡ false
      → tokens_of test (items_placed at (front ++ rest)) ≡ tokens_of test (items_placed (at + length (flat_map item_bytes front)) rest)
  unmet-tokens at [] rest none = let same : at ≡ at + 0 = omega arith in ap (λ k. tokens_of test (items_placed k rest)) same
  unmet-tokens at (item ∷ front) rest none =
      let both = or_parts (any_part test item.tree) (have_part test front) none in
      let next : ℕ = at + length (item_bytes item) in
      let same : next + length (flat_map item_bytes front) ≡ at + length (flat_map item_bytes (item ∷ front)) = omega (arith, length-append (item_bytes item) (flat_map item_bytes front)) in
      tokens-append test (tree_placed at item.tree) (items_placed next (front ++ rest))
      ∙ ap (λ l. l ++ tokens_of test (items_placed next (front ++ rest))) (no-tokens at item.tree both.0)
      ∙ unmet-tokens next front rest both.1
      ∙ ap (λ k. tokens_of test (items_placed k rest)) same

  pub tokens-pass : (db : Reading) (n : ℕ) (old : List (ℕ × Text)) (k at : ℕ) (tokens : List (ℕ × Text)) (m to : ℕ) → k ≤ m → have_part test (between k m db.items) ≡ false → to ≡ start_of db m
      → AreTokensTo test db n old k at tokens → AreTokensTo test db n old m to tokens
  tokens-pass db n old k at tokens m to low none place so_far = record {
    place = place;
    all = ap (λ l. tokens ++ l)
        (sym (ap (λ l. tokens_of test (items_placed (start_of db k) l)) (drop-both db.items k m low)
        ∙ unmet-tokens (start_of db k) (between k m db.items) (drop m db.items) none
        ∙ ap (λ p. tokens_of test (items_placed p (drop m db.items))) (sym (start-pass db k m low))))
        ∙ so_far.all;
  }

  pub met-pass : (items : List Item) (n k : ℕ) (met : Bool) (m : ℕ) → k ≤ m → have_part test (between k m items) ≡ false → IsMetFrom test items n k met → IsMetFrom test items n m met
  met-pass items n k met m low none so_far =
      ap (λ b. met || b)
      (sym (ap (have_part test) (drop-both items k m low) ∙ list_any-append (λ (i : Item). any_part test i.tree) (between k m items) (drop m items) ∙ ap (λ b. b || have_part test (drop m items)) none))
      ∙ so_far

  -- what the first items have, they have with some more of them
  pub met-first : (items : List Item) (k m : ℕ) → k ≤ m → have_part test (between k m items) ≡ false → have_part test (take m items) ≡ have_part test (take k items)
  met-first items k m low none =
      ap (have_part test) (take-both items k m low)
      ∙ list_any-append (λ (i : Item). any_part test i.tree) (take k items) (between k m items)
      ∙ ap (λ b. have_part test (take k items) || b) none
      ∙ or-false (have_part test (take k items))

  -- what the first items lack, fewer of them lack
  pub none-before : (items : List Item) (n k : ℕ) → n ≤ k → false ≡ have_part test (take k items) → false ≡ have_part test (take n items)
  none-before items n k low none =
      sym (or_parts (have_part test (take n items)) (have_part test (between n k items))
      (sym (list_any-append (λ (i : Item). any_part test i.tree) (take n items) (between n k items)) ∙ sym (ap (have_part test) (take-both items n k low)) ∙ sym none)).0
