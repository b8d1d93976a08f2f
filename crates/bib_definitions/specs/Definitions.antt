-- The macros that a file defines, and what they stand for before each item.
use Rattle.std.specs.Prelude.{◌≡◌, ◌≤◌, ℕ, suc, Bool, true, false, List, [], ◌∷◌, length, map, filter, slice_index_or, count_by, Option, Some, None, option_map, if◌then◌else◌}
use Rattle.std.specs.List.{enumerate_from}
use Rattle.bib_spec.specs.Text.{Text, folded, same}
use Rattle.bib_spec.specs.Tree.{Tree, CommentTree, DefinitionTree, PreambleTree, EntryTree}
use Rattle.bib_spec.specs.Reading.{Item}
use Rattle.bib_spec.specs.Texts.{Macros, months, raw_text, macros_in, macros_at, gathered}
use Rattle.bib_numbers.specs.Labels.{label_limit, AreLabels}
use Rattle.bib_numbers.specs.Numbers.{rank_in}
use Rattle.bib_definitions.specs.ByName.{Defined, definitions_of, texts_before, labelled, named_among, AreAsLong}

-- The numbers that the definitions have among the items, their labels, the definitions of each name, and how long their
-- texts are at most. Labels stand for the order of the definitions: a definition keeps its label when others come or go.
pub record Known : Type 0 where
  pub numbers : List ℕ
  pub labels : List ℕ
  pub defined : Defined
  pub longest : ℕ

-- the label of definition k, or the limit if there are no more than k
abbrev pub label_at : List ℕ → ℕ → ℕ
label_at labels k = slice_index_or labels k label_limit

-- what macros stand for before item n: what they stand for after the definitions that come before it
abbrev pub texts_at : Known → ℕ → Macros
texts_at known n = texts_before known.defined (label_at known.labels (rank_in n known.numbers))

-- no name stands for a longer text
abbrev pub AreAtMost : ℕ → Macros → Type 0
AreAtMost longest macros = (name text : Text) → macros name ≡ Some text → length text ≤ longest

-- the item is a macro definition
abbrev pub is_definition_tree : Tree → Bool
is_definition_tree (DefinitionTree d) = true
is_definition_tree (CommentTree h) = false
is_definition_tree (PreambleTree p) = false
is_definition_tree (EntryTree e) = false

-- the item defines the name, folded
abbrev pub is_definition_of : Text → Tree → Bool
is_definition_of name (DefinitionTree d) = same d.assignment.name name
is_definition_of name (CommentTree h) = false
is_definition_of name (PreambleTree p) = false
is_definition_of name (EntryTree e) = false

-- how many of the items define the name
abbrev pub definition_count : Text → List Item → ℕ
definition_count name items = count_by (λ item. is_definition_of name item.tree) items

-- the number of the first of the items that defines the name
abbrev pub first_definition : Text → List Item → Option ℕ
first_definition name [] = None
first_definition name (item ∷ items) = if is_definition_of name item.tree then Some 0 else option_map suc (first_definition name items)

-- the numbers that the definitions have among the items, in order
abbrev pub definition_numbers : List Item → List ℕ
definition_numbers items = map (λ p. p.0) (filter (λ p. is_definition_tree p.1.tree) (enumerate_from 0 items))

-- the definition that an item is, as its folded name with the text that it gives, or nothing for other items
abbrev pub defined_by : Macros → Tree → List (Text × Text)
defined_by macros (DefinitionTree d) = (folded d.assignment.name, raw_text (macros_in macros (DefinitionTree d)) d.assignment.value) ∷ []
defined_by macros (CommentTree h) = []
defined_by macros (PreambleTree p) = []
defined_by macros (EntryTree e) = []

-- the definitions of a file, in order
abbrev pub definitions_in : List Item → List (Text × Text)
definitions_in items = gathered defined_by months items

-- the table says which of these items are definitions and which names they give which texts, and so what macros stand for
-- before each item, and after the last
pub record AreDefinitionsOf (items : List Item) (known : Known) : Type 0 where
  pub numbers : known.numbers ≡ definition_numbers items
  pub labels : AreLabels known.labels
  pub counted : length known.labels ≡ length (definitions_in items)
  pub named : (name : Text) → definitions_of known.defined name ≡ named_among name (labelled known.labels (definitions_in items))
  pub longest : AreAsLong known.longest known.defined
  pub texts : (n : ℕ) → texts_at known n ≡ macros_at months items n

-- an item that sees these macros is a definition, and gives the name this text
abbrev pub Defines : Macros → Tree → Text → Text → Type 0
Defines macros tree name text = defined_by macros tree ≡ (folded name, text) ∷ []

-- the definitions among the items give the same texts, whatever macros stand for before them
abbrev pub AreSettled : List Item → Type 0
AreSettled items = (a b : Macros) → gathered defined_by a items ≡ gathered defined_by b items
