-- The words that most proofs of this crate cite, passed on from one place. Declares nothing.
pub use Rattle.std.proofs.Common.{All, Bool, Err, IfErr, IfNone, IfOk, IsTrue, List, None, Ok, OnOk, Option, Result, Some, [], add-one, add-zero, ap, append-nil, append_assoc, ap₂, arith, codes, cond, count_by, drop, false, filter, filter_map, find, get_or, if◌then◌else◌, inl, inr, insert, is_none}
pub use Rattle.std.proofs.Common.{is_some, le_of_suc-le-suc, le_refl, length, length-append, map, nat_le, nat_lt, ne_eqb, not, not-suc-le-zero, option_and_then, option_map, refl, rules, scan, slice_get, subst, subst₂, suc, suc-le-suc, sym, take, take-append-drop, tests, true, zero, zero-add}
pub use Rattle.std.proofs.Common.{zero-lt-suc, ℕ, ⊎_elim, ◌&&◌, ◌*◌, ◌++◌, ◌+◌, ◌-◌, ◌<◌, ◌==◌, ◌^◌, ◌||◌, ◌↔◌, ◌∙◌, ◌∷◌, ◌≡◌, ◌≤◌, ◌⊎◌}
pub use Rattle.std.proofs.Math.Bool.{and-false, or-false, or-true, or_assoc, or_comm}
pub use Rattle.std.proofs.Math.ListN.{drop_of_length-le}
pub use Rattle.std.proofs.Math.Path.{fun_ext}
pub use Rattle.std.proofs.lemmas.Bool.{and_from, and_parts, both_ways, cases_Bool, cases_lt, cond-false, cond-true, cond_both, eq-eqb, eqb-false, eqb-true, false_from_ne_true, false≢true, le-ltb, leb-true, lt-ltb, ltb-false, ltb-true, or_from, or_parts, true_from_ne_false, true≢false}
pub use Rattle.std.proofs.lemmas.Iterator.{YieldsList-from_slice}
pub use Rattle.std.proofs.lemmas.Iterator.Search.{all_from_yields_List, any_from_yields_List, find_from_yields_List}
pub use Rattle.std.proofs.lemmas.List.{drop_all, drop_at, drop_more, length-map, map-append, take_all, take_at, take_more}
pub use Rattle.std.proofs.lemmas.List.Elements.{All-append, All-cons, All-head, All-nil, All-tail}
pub use Rattle.std.proofs.lemmas.List.Folds.{flat_map-map, list_all-append, list_all-map, list_all_at, list_any-append}
pub use Rattle.std.proofs.lemmas.Option.{cond_some, none-some, same_Some, slice_get_past, slice_get_read, slice_get_within}
pub use Rattle.std.proofs.lemmas.Result.{IfOk-weaker, err_from_is_err_and}
pub use Rattle.std.specs.List.{AllByRecursion, between, cons_option, enumerate_from, flat_map, last_or, list_all, list_any, range_with_len, zip}
pub use Rattle.std.specs.Option.{IfSome, option_copied, option_map_or, option_or}
pub use Rattle.std.specs.Str.{bytes_eq}
pub use Rattle.bib_data.specs.declared.edit.Edit.TheVariants.{AddEntry, AddMany, DropField, RegenerateKeys, RenameKey, SetField}
pub use Rattle.bib_data.specs.declared.edit.NewEntry.{NewEntry}
pub use Rattle.bib_edit.specs.Addressing.{IsHeldAt, IsHolderFault, IsLoneNumber, fields_end, is_field, item_named, many_hold, none_holds}
pub use Rattle.bib_edit.specs.Asking.{OfEdit, SpellEntries, SpellFields, SpellsEntry, add_entry, add_many, move_entry, regenerate_keys, rename_key, set_field}
pub use Rattle.bib_edit.specs.Dangling.{is_awaited}
pub use Rattle.bib_edit.specs.Definitions.{IsDefinedAt, IsDefinitionAt, IsDefinitionFault, IsDefinitionNumber, braced, definition_text, is_given, is_taken_before, is_taken_from, is_used, many_define, name_token, none_defines}
pub use Rattle.bib_edit.specs.FieldPieces.{IsNamedItem, OfItem, cut_piece, joins_key, row_text, rows_end, set_at, set_piece}
pub use Rattle.bib_edit.specs.Limits.{news_len, olds_len}
pub use Rattle.bib_edit.specs.ManyEntries.{Adds, AllHaveValues, AreAddable, AreAnyLong, are_named, entries_text, has_field_twice, is_any_held, keys_given, many, names_given, one, put_in, types_given}
pub use Rattle.bib_edit.specs.Moving.{FieldsHaveValues, IsFieldLong, IsMovable, line_of, moved_pieces, next_item}
pub use Rattle.bib_edit.specs.NewEntries.{AreShortTo, HaveValues, HaveValuesTo, IsAnyLong, IsLong, entry_text, field_line, insertion_of, line_before_close, lines_of, names_of}
pub use Rattle.bib_edit.specs.NewKeys.{ArePassed, AreQuiet, HavePieces, IsEntrySeen, RefersAt, crossref_piece, entry_item, entry_pieces, key_of, key_piece, new_target, pieces_after, pieces_at, rekeying, value_piece}
pub use Rattle.bib_edit.specs.Planning.{ArePiecesOf, IsAllowedEdit, IsRefusal}
pub use Rattle.bib_edit.specs.Removal.{IsFirstAt, IsParent, JoinsCleanly, body_at, is_after_comment, removal_of, text_before, trail_at}
pub use Rattle.bib_edit.specs.Replacing.{covered, replaced, replaced_by}
pub use Rattle.bib_edit.specs.declared.fault.EditFault.TheVariants.{Memory}
pub use Rattle.bib_edit.specs.declared.new_keys.NewKeys.{NewKeys}
pub use Rattle.bib_entries.proofs.Tables.{numbered_first, numbered_later, numbers_from}
pub use Rattle.bib_entries.specs.EntryTable.{referrers, refers}
pub use Rattle.bib_keys.proofs.LookUps.{copied-some}
pub use Rattle.bib_keys.proofs.Walks.{next-read}
pub use Rattle.bib_keys.specs.MadeBase.{made_base}
pub use Rattle.bib_scan.proofs.OneReading.{one_reading}
pub use Rattle.bib_scan.specs.Layout.{start_of}
pub use Rattle.bib_scan.specs.ValueParts.{IsPartsOf}
pub use Rattle.bib_scan.specs.View.{Field, View, field_after, field_seen, fields_after, fields_of, view_of}
pub use Rattle.bib_spec.proofs.Counts.{count-no, count-yes}
pub use Rattle.bib_spec.proofs.Keys.{option_cases}
pub use Rattle.bib_spec.proofs.Names.{eq-true, same-true, same_comm, true-same}
pub use Rattle.bib_spec.proofs.Parents.{named_within}
pub use Rattle.bib_spec.proofs.Places.{first_is, first_named_same, suc_some}
pub use Rattle.bib_spec.proofs.Results.{ok_always}
pub use Rattle.bib_spec.specs.Bytes.{close_brace, close_paren, comma, equals_sign, file_limit, hash, name_limit, open_brace}
pub use Rattle.bib_spec.specs.Clean.{IsClean, IsCleanTrail}
pub use Rattle.bib_spec.specs.Pieces.{Chunk, Fit, Kept, Piece, Replaced, end_of, new_of, old_of, pieces_from, pieces_of_chunks}
pub use Rattle.bib_spec.specs.Reading.{IsItem, IsValueWithin, Item, Reading, Reads, bytes_of, item_bytes}
pub use Rattle.bib_spec.specs.Records.{EntryTexts, Record, crossref, crossref_text, dangling_text, entries_of, entry_in, entry_named, field_of, first_named, has_name, is_named, keys_of, other_than, parent, target, target_of, texts_of}
pub use Rattle.bib_spec.specs.Text.{IsBalanced, Text, does_not_begin_with, folded, is_name, is_new_key, same}
pub use Rattle.bib_spec.specs.Texts.{IsOpenable, Macros, Opens, bytes_before_value, gathered, is_empty, macros_after, macros_at, macros_in, months, part_text, parts_of, raw_limit, raw_text, raw_texts_from, raw_texts_in, row_places, row_start, too_long_at, updated, value_places, values_of}
pub use Rattle.bib_spec.specs.Tree.{Assignment, Braced, CommentTree, Definition, DefinitionTree, Digits, Entry, EntryTree, IsLink, IsRow, IsTree, IsValue, Link, Macro, Part, PreambleTree, Quoted, Row, Tree, Value, assignment_bytes, close_byte, definition_bytes, entry_bytes, is_comment, is_type}
pub use Rattle.bib_spec.specs.Tree.{last_comma_bytes, link_bytes, opening_bytes, part_bytes, row_bytes, tree_bytes, value_bytes}
pub use Rattle.bib_store.proofs.ChosenFields.{any_mapped}
pub use Rattle.bib_store.proofs.EntryItems.{entry_at, entry_stands, entry_within, key_at_entry, length-entry_items, length-entry_numbers}
pub use Rattle.bib_store.specs.Readings.{OfReading, entry_items, entry_numbers, is_entry_tree}
pub use Rattle.bib_tokens.proofs.Elements.{slice_get-within}
pub use Rattle.bib_tokens.proofs.FirstFound.{first-any, first-count, none-count}
pub use Rattle.bib_tokens.proofs.PlacedFields.{tokens-append, value-place}
pub use Rattle.bib_tokens.proofs.PlacedItems.{item-ends, only-tokens, place-next}
pub use Rattle.bib_tokens.specs.FirstItem.{first_item}
pub use Rattle.bib_tokens.specs.PlacedParts.{field_end, items_placed, links_placed, rows_placed, token_seen, tokens_of, tokens_seen, tree_placed, value_placed}
pub use Rattle.folded_map.specs.FoldedMap.{IsWith, value_at}
pub use Rattle.edit_spec.proofs.EditFiles.{chunks-are-files, pieces-lead}
pub use Rattle.edit_spec.proofs.RenameKey.{new_key_parts, only}
pub use Rattle.edit_spec.proofs.Simulation.{InItems, InTree, Rows, after_same, text_same}
pub use Rattle.edit_spec.proofs.TreeChunks.{entry-read, items-kept, last-read, old-read, read, row-parts, rows-kept, token_old}
pub use Rattle.edit_spec.proofs.WrittenRows.{new_key-length}
pub use Rattle.edit_spec.specs.EditChunks.{after_rows, assignment_chunks, chunks, chunks_from_first, crossref_chunks, entry_as, entry_chunks, field_dropped, field_set, groups_without, inserted, item_chunks, item_key_chunks, items_chunks, kept_item, kept_items, kept_rows, key_chunks, link_chunks}
pub use Rattle.edit_spec.specs.EditChunks.{moved, part_token, pieces_of, row_chunks, token, tree_chunks, tree_key_chunks, value_chunks, value_replaced, without_body}
pub use Rattle.edit_spec.specs.Edits.{Ambiguous, BadKey, BadName, BadPosition, BadValue, Edit, EditFault, FileTooLong, HasCleanTexts, InlineMacro, IntroduceMacro, IsAccepted, IsAmbiguous, IsFirstRefusal, IsKeyInUse, IsMissing, IsNameInUse, IsPositionTooHigh, IsReferred, KeyInUse, MergesText}
pub use Rattle.part_spec.specs.Parts.{any_part, have_part, holds, uses}
pub use Rattle.edit_spec.specs.Edits.{MoveEntry, NameInUse, NotFound, Referred, Refuses, RemoveEntry, RenameMacro, Spells, TextTooLong, WouldMerge, changed, defines, definition_of, definitions, drop_field, edited, ends_in_key, entry_of, entry_with_field, entry_without_field, field_names}
pub use Rattle.edit_spec.specs.Edits.{field_values, fields_named, from_first, given_keys, given_names, given_types, given_values, has_same, holders, in_braces, in_line, inline_macro, introduce_macro, introduced, is_entry, is_in_use, item_of, items_with, items_with_keys, key_for}
pub use Rattle.edit_spec.specs.Edits.{last_position, leaving, line_end, name_renamed, new_row, new_rows, next_number, of_entry, part_introduced, rank, remove_entry, rename_macro, row_before, row_to, row_with, text_of_macro, tree_ends_in_key, tree_with, tree_with_keys, use_inlined, use_renamed}
pub use Rattle.edit_spec.specs.Edits.{uses_inlined, with_crossref, with_entry, with_field, with_first_tree, with_item, with_keys, with_value, without_field, without_first}
