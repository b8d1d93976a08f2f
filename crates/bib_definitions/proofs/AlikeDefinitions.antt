-- The table of definitions sees no more of items than which are definitions, and what these give.
use Rattle.bib_definitions.proofs.Words.{◌≡◌, ◌∙◌, ℕ, List, length, ap, Text, Item, months, macros_at, labelled, named_among, Known, definition_numbers, definitions_in, AreDefinitionsOf}

-- items that are as much alike have the same table
pub definitions_alike : (items new : List Item) (known : Known) → definition_numbers items ≡ definition_numbers new → definitions_in items ≡ definitions_in new
    → ((n : ℕ) → macros_at months items n ≡ macros_at months new n) → AreDefinitionsOf items known → AreDefinitionsOf new known
definitions_alike items new known numbers all macros are = record {
  numbers = are.numbers ∙ numbers;
  labels = are.labels;
  counted = are.counted ∙ ap (length {A = Text × Text}) all;
  named = λ x. are.named x ∙ ap (λ (l : List (Text × Text)). named_among x (labelled known.labels l)) all;
  longest = are.longest;
  texts = λ n. are.texts n ∙ macros n;
}
