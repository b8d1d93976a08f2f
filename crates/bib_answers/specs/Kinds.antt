-- The kinds of items.
use Rattle.std.specs.Prelude.{Bool}
use Rattle.bib_spec.specs.Tree.{Tree, is_comment}
use Rattle.bib_scan.specs.declared.view.Kind.{Kind}
use Rattle.bib_scan.specs.declared.view.Kind.TheVariants as kind
use Rattle.bib_store.specs.Readings.{is_entry_tree}
use Rattle.bib_store.specs.Tables.{is_preamble_tree}
use Rattle.bib_definitions.specs.Definitions.{is_definition_tree}

-- the item is of this kind
abbrev pub is_of_kind : Kind → Tree → Bool
is_of_kind kind.Entry = is_entry_tree
is_of_kind kind.Macro = is_definition_tree
is_of_kind kind.Preamble = is_preamble_tree
is_of_kind kind.Comment = is_comment
