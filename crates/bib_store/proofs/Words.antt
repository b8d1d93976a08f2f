-- The words that most proofs of this crate cite, passed on from one place. Declares nothing.
pub use Rattle.bib_definitions.proofs.AlikeDefinitions.{definitions_alike}
pub use Rattle.bib_definitions.proofs.MacrosAfter.{gathered-append, macros_in_front}
pub use Rattle.bib_definitions.specs.Definitions.{AreAtMost, AreDefinitionsOf, AreSettled, defined_by, definitions_in, is_definition_tree, texts_at}
pub use Rattle.bib_definitions.specs.MacrosSeen.{macros_seen}
pub use Rattle.bib_entries.specs.EntryTable.{IsTableOf}
pub use Rattle.bib_items.proofs.Filled.{without-put}
pub use Rattle.bib_items.proofs.Walks.{weight-take}
pub use Rattle.bib_items.specs.Glancing.{LacksWord}
pub use Rattle.bib_items.specs.Items.{all_stored, item, item_at, kept_bytes, stored, without_range}
pub use Rattle.bib_numbers.specs.Numbers.{numbered, numbers}
pub use Rattle.bib_scan.proofs.OneReading.{one_reading, tree_unique}
pub use Rattle.bib_scan.proofs.TakenApart.{one_value}
pub use Rattle.bib_scan.specs.Layout.{IsLayoutOf, start_of}
pub use Rattle.bib_scan.specs.PartView.{part_view}
pub use Rattle.bib_scan.specs.Progress.{AreAllOf, IsItemOf}
pub use Rattle.bib_scan.specs.View.{View, field_after, field_seen, fields_after, fields_of, key_of, kind_of, view_of}
pub use Rattle.bib_scan.specs.declared.note.Note.{Note}
pub use Rattle.bib_spec.proofs.Names.{same-true, same_of, true-eq}
pub use Rattle.bib_spec.proofs.Results.{err_always, err_from, ok_always, ok_from}
pub use Rattle.bib_spec.specs.Bytes.{comma, equals_sign, file_limit, name_limit}
pub use Rattle.bib_spec.specs.Clean.{IsClean}
pub use Rattle.bib_spec.specs.Fault.{no_memory}
pub use Rattle.bib_spec.specs.Pieces.{Fit, Piece, applied}
pub use Rattle.bib_spec.specs.Reading.{HasReading, IsItem, Reading, Reads, bytes_of, item_bytes}
pub use Rattle.bib_spec.specs.Records.{EntryTexts, Record, RecordField, crossref, crossref_text, entries_of, entry_in, entry_named, field_of, fields_at, has_name, keys_of, missing, own_fields, parent, preambles_of, record_field, texts_of, with_parents}
pub use Rattle.bib_spec.specs.Text.{Text, folded, same}
pub use Rattle.bib_spec.specs.Texts.{IsOpenable, Macros, Opens, bytes_before_value, gathered, macros_after, macros_at, macros_in, part_text, raw_limit, raw_text, raw_texts_from, raw_texts_in, row_places, row_start, too_long_at, value_places}
unfoldable pub use Rattle.bib_spec.specs.Texts.{field_text, months}
pub use Rattle.bib_spec.specs.Tree.{Braced, CommentTree, Definition, DefinitionTree, Digits, Entry, EntryTree, IsRow, IsTree, IsValue, Macro, Part, Preamble, PreambleTree, Quoted, Row, Tree, Value, after_key_bytes, assignment_bytes, close_byte, entry_bytes, last_comma_bytes, opening_bytes}
pub use Rattle.bib_spec.specs.Tree.{row_bytes, tree_bytes, value_bytes}
pub use Rattle.bib_store.specs.Bounds.{Admits, AreAllSettled, AreBounded, AreLiteral, IsBounded, IsSettled}
pub use Rattle.bib_store.specs.Choosing.{chosen}
pub use Rattle.bib_store.specs.Citing.{AreCounts, AreMarks, is_added}
pub use Rattle.bib_store.specs.Firm.{IsFirm}
pub use Rattle.bib_store.specs.Following.{AreItemsOf, AreOthersOf, DefineNothing, HaveShortTexts, MayPass, MayPassBetween, bodies_between}
pub use Rattle.bib_store.specs.Gathering.{AreTaken, IsFieldOf, IsReadable, is_taken, with_field, with_fields}
pub use Rattle.bib_store.specs.InPlace.{TakePlaces, with_bounds}
pub use Rattle.bib_store.specs.ItemTexts.{OfRows, crossref_in, first_too_long, own_text, placed_texts, row_texts}
pub use Rattle.bib_store.specs.Readings.{IsEntryNumber, OfReading, entry_numbers, is_entry_tree}
pub use Rattle.bib_store.specs.Runs.{AreFollowed, IsMeasured, IsRunChange, LeadWithin, StayFollowed}
pub use Rattle.bib_store.specs.Stored.{IsKept, IsKeptAs, file_of}
pub use Rattle.bib_store.specs.Tables.{is_preamble_tree, preamble_numbers}
pub use Rattle.bib_store.specs.TablesOf.{AreNotesOf, AreTables, AreTablesOf, HasItems, IsInsertion, IsRemoval, IsStep, IsTooLongAt, OfView, SayTheSame, item_with}
pub use Rattle.bib_store.specs.Windows.{ArePut, AreNoted, HasLead, IsLead, IsWindow, OfJoined, OfPut, SayTheSameBefore, Serve, bytes_after, bytes_before, bytes_within, exchanged, front_before, front_within, change_put, joined}
pub use Rattle.bib_store.specs.declared.bounds.Bounds.{Bounds}
pub use Rattle.bib_store.specs.declared.change.Change.{Change}
pub use Rattle.bib_store.specs.declared.change.PutItems.{PutItems}
pub use Rattle.bib_store.specs.declared.item_fault.ItemFault.{ItemFault}
pub use Rattle.bib_store.specs.declared.item_fault.ItemFault.TheVariants.{TooLong}
pub use Rattle.bib_store.specs.declared.tables.Tables.{Tables}
pub use Rattle.bib_store.specs.declared.window.Window.{Window}
pub use Rattle.bib_value.specs.Raw.{OfValue}
pub use Rattle.history_spec.proofs.Shifts.{fit-after}
pub use Rattle.history_spec.specs.Shifting.{FitAfter, all_moved_back}
pub use Rattle.std.proofs.Common.{Bool, Bor, List, None, Option, Some, [], ap, append_assoc, ap₂, arith, cond, count_by, drop, false, filter, get_or, inl, inr, insert, le_of_suc-le-suc, length, length-append, map, max, nat_le, nat_lt, not, not-suc-le-zero, option_map, refl, remove, rules, set}
pub use Rattle.std.proofs.Common.{subst, suc, sym, take, take-append-drop, tests, true, zero, ℕ, ⊎_elim, ◌&&◌, ◌*◌, ◌++◌, ◌+◌, ◌-◌, ◌<◌, ◌^◌, ◌||◌, ◌∙◌, ◌∷◌, ◌≡◌, ◌≢◌, ◌≤◌, ◌⊎◌}
pub use Rattle.std.proofs.Math.Nat.{mul-le-mul_right}
pub use Rattle.std.proofs.lemmas.Bool.{both_ways, cases_Bool, cond-false, cond-true, eqb-true, le-ltb, lt-ltb}
pub use Rattle.std.proofs.lemmas.Iterator.{YieldsList-from_slice}
pub use Rattle.std.proofs.lemmas.Iterator.Search.{any_from_yields_List}
pub use Rattle.std.proofs.lemmas.List.{drop-append-le, drop-drop, drop-map, drop-take, drop_all, drop_at, get_or_default, length-map, length-set, map-append, take-map, take-take, take_at, take_more}
pub use Rattle.std.proofs.lemmas.List.Elements.{All-append, All-drop, All-head, All-tail, All-take, filter-append}
pub use Rattle.std.proofs.lemmas.List.Folds.{list_any-append}
pub use Rattle.std.proofs.lemmas.Option.{get_or_from_slice_get, none-some, same_Some, slice_get-get_or, slice_get-map, slice_get_within}
pub use Rattle.std.proofs.lemmas.Result.{IfOk-weaker, err_from_is_err_and}
pub use Rattle.std.specs.Cmp.Lexicographic.{same_text}
pub use Rattle.std.specs.List.{AllByRecursion, AllZip, between, enumerate_from, flat_map, list_any, range_with_len}
pub use Rattle.std.specs.Option.{option_map_or, option_or}
