-- The words that most proofs of this crate cite, passed on from one place. Declares nothing.
pub use Rattle.bib_definitions.specs.ByName.{AreAsLong, Ascends, Defined, Gives, definitions_of, each_held, labelled, named_among, text_before, with_definition, without_label}
pub use Rattle.bib_definitions.specs.Definitions.{AreAtMost, AreDefinitionsOf, Known, defined_by, definition_numbers, definitions_in, is_definition_of, is_definition_tree, label_at, texts_at}
pub use Rattle.bib_definitions.specs.Held.{definitions_held}
pub use Rattle.bib_definitions.specs.declared.held.Definition.{Definition}
pub use Rattle.bib_definitions.specs.declared.held.Held.{Held}
pub use Rattle.bib_numbers.specs.Labels.{AreLabels, Rise}
pub use Rattle.bib_numbers.specs.Numbers.{numbered, numbers, rank_in}
pub use Rattle.bib_spec.proofs.Names.{eq-true, true-eq}
pub use Rattle.bib_spec.specs.Reading.{Item}
pub use Rattle.bib_spec.specs.Text.{Text, folded}
pub use Rattle.bib_spec.specs.Texts.{Macros, gathered, macros_after, macros_at}
unfoldable pub use Rattle.bib_spec.specs.Texts.{months}
pub use Rattle.bib_spec.specs.Tree.{CommentTree, DefinitionTree, EntryTree, PreambleTree, Tree}
pub use Rattle.bib_value.specs.Macros.{or_else}
pub use Rattle.folded_map.specs.FoldedMap.{IsWith, value_at}
pub use Rattle.std.proofs.Common.{All, Bool, List, None, Option, Some, [], ap, append_assoc, ap₂, arith, cond, false, get_or, insert, length, length-append, map, nat_lt, refl, remove, slice_get, subst, suc, sym, take, true, unwrap_or, zero, ℕ, ⊎_elim, ◌++◌, ◌+◌, ◌<◌, ◌∙◌, ◌∷◌, ◌≡◌, ◌≤◌}
pub use Rattle.std.proofs.lemmas.Bool.{both_ways, cases_Bool, cases_lt, cond-false, cond-true, le-ltb, lt-ltb}
pub use Rattle.std.proofs.lemmas.Option.{none-some, same_Some}
pub use Rattle.std.specs.List.{AllByRecursion}
pub use Rattle.std.specs.List.Sorted.{IsPartitionPoint}
pub use Rattle.std.specs.Option.{option_copied}
pub use Rattle.std.specs.Str.{bytes_eq}
