-- What is kept beside the items of a file: which of them are preambles, and what each entry's crossref says.
use Rattle.std.specs.Prelude.{ℕ, Bool, true, false, List, map, filter, Option}
use Rattle.std.specs.List.{enumerate_from}
use Rattle.bib_spec.specs.Text.{Text}
use Rattle.bib_spec.specs.Tree.{Tree, CommentTree, DefinitionTree, PreambleTree, EntryTree}
use Rattle.bib_spec.specs.Reading as reading
use Rattle.bib_spec.specs.Reading.{Reading}
use Rattle.bib_spec.specs.Records.{entries_of, crossref_text}

-- ---- numbers

-- the tree is that of a preamble
abbrev pub is_preamble_tree : Tree → Bool
is_preamble_tree (PreambleTree p) = true
is_preamble_tree (CommentTree h) = false
is_preamble_tree (DefinitionTree d) = false
is_preamble_tree (EntryTree e) = false

-- the numbers that the preambles have among the items, in order
abbrev pub preamble_numbers : List reading.Item → List ℕ
preamble_numbers items = map (λ p. p.0) (filter (λ p. is_preamble_tree p.1.tree) (enumerate_from 0 items))

-- ---- crossrefs

-- what the crossref of each entry says
abbrev pub crossrefs_of : Reading → List (Option Text)
crossrefs_of db = map crossref_text (entries_of db)
