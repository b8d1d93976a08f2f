-- The words that most proofs of this crate cite, passed on from one place. Declares nothing.
pub use Rattle.bib_items.specs.Seeking.{test_of}
pub use Rattle.bib_scan.specs.Layout.{start_of}
pub use Rattle.bib_scan.specs.PartView.{part_view}
pub use Rattle.bib_scan.specs.View.{Field, View, fields_after, fields_of, view_of}
pub use Rattle.bib_spec.specs.Bytes.{name_limit}
pub use Rattle.bib_spec.specs.Reading.{IsItem, Item, Reading, Reads, item_bytes}
pub use Rattle.bib_spec.specs.Text.{Text}
pub use Rattle.bib_spec.specs.Tree.{CommentTree, DefinitionTree, EntryTree, IsRow, IsTree, Link, Part, PreambleTree, Row, Tree, Value, link_bytes, opening_bytes, part_bytes, row_bytes, tree_bytes, value_bytes}
pub use Rattle.bib_store.proofs.KeptItems.{item_in}
pub use Rattle.bib_store.specs.Readings.{OfReading}
pub use Rattle.bib_tokens.specs.PlacedParts.{AreFieldTokens, ArePlacedFields, IsMetIn, items_placed, links_placed, token_at, token_seen, tokens_of, tokens_seen, tree_placed, value_placed}
pub use Rattle.bib_value.specs.Raw.{OfValue}
pub use Rattle.part_spec.specs.Parts.{any_part, have_part}
pub use Rattle.std.proofs.Common.{All, Bool, List, Some, [], ap, append-nil, append_assoc, ap₂, arith, drop, false, le_of_suc-le-suc, length, map, nat_lt, not, not-suc-le-zero, option_map, refl, slice_get, subst, suc, sym, take, true, zero, ℕ, ⊎_elim, ◌++◌, ◌+◌, ◌-◌, ◌<◌, ◌==◌, ◌||◌, ◌∙◌, ◌∷◌, ◌≡◌}
pub use Rattle.std.proofs.Common.{◌≤◌}
pub use Rattle.std.proofs.Math.Bool.{or-false}
pub use Rattle.std.proofs.lemmas.Bool.{cases_Bool, cond-false, cond-true, ltb-false, or_parts}
pub use Rattle.std.proofs.lemmas.Grind.{flat_map-append}
pub use Rattle.std.proofs.lemmas.List.{drop_all, map-append, take-append-drop, take_all, take_at}
pub use Rattle.std.proofs.lemmas.List.Elements.{All-head, All-tail}
pub use Rattle.std.proofs.lemmas.List.Folds.{list_any-append}
pub use Rattle.std.proofs.lemmas.Option.{none-some, same_Some}
pub use Rattle.std.specs.List.{flat_map, list_any}
