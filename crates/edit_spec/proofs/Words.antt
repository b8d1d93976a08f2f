-- The words that most proofs of this crate cite, passed on from one place. Declares nothing.
pub use Rattle.bib_spec.proofs.Accepted.{dangling_among, there_once}
pub use Rattle.bib_spec.proofs.Counts.{count-no, count-yes}
pub use Rattle.bib_spec.proofs.FreeKeys.{free_key_free, lower_letters}
pub use Rattle.bib_spec.proofs.Keys.{first_kept, first_new, key_before, keys_with, option_cases}
pub use Rattle.bib_spec.proofs.Names.{both_true, eq-true, same-is, same-true, same_comm, true-eq, true-same}
pub use Rattle.bib_spec.proofs.NewKeyBytes.{new_key_byte-lower, new_key_byte-plain}
pub use Rattle.bib_spec.proofs.Places.{IsFirst, first_is, none_at}
pub use Rattle.bib_spec.specs.Bytes.{close_brace, comma, file_limit, name_limit, open_brace}
pub use Rattle.bib_spec.specs.Clean.{IsClean, IsCleanTrail}
unfoldable pub use Rattle.bib_spec.specs.Clean.{begins_command}
pub use Rattle.bib_spec.specs.MadeKeys.{IsKeyBase, bases, candidate, free_key, is_taken, letters, made_keys, new_keys}
pub use Rattle.bib_spec.specs.Pieces.{Chunk, Kept, Replaced, applied}
pub use Rattle.bib_spec.specs.Reading.{IsItem, Item, Reading, Reads, bytes_of, item_bytes}
pub use Rattle.bib_spec.specs.Records.{EntryTexts, Field, Record, RecordField, ancestors, ancestors_from, crossref, crossref_text, dangling_text, dangling_texts, entries_of, entry_in, entry_named, expanded, field_of, fields_at, first_named, has_name, is_named, keys_of, listed, missing, other_than}
pub use Rattle.bib_spec.specs.Records.{own_fields, parent, preamble_in, preambles_of, record_of, target, target_of, texts_of, unknown, unvisited, with_inherited}
pub use Rattle.bib_spec.specs.Text.{IsBalanced, Text, closed_before, does_not_begin_with, folded, is_name, is_type_name, opened_before, same}
unfoldable pub use Rattle.bib_spec.specs.Text.{is_name_byte, is_name_within, is_new_key, is_new_key_byte, is_space}
pub use Rattle.bib_spec.specs.Texts.{Macros, gathered, is_empty, macros_after, macros_at, macros_in, part_text, parts_of, raw_text, row_start, seen, too_long_at, updated}
unfoldable pub use Rattle.bib_spec.specs.Texts.{field_text, months}
pub use Rattle.bib_spec.specs.Tree.{Assignment, Brace, Braced, CommentTree, Definition, DefinitionTree, Delimiter, Digits, Entry, EntryTree, IsEntry, IsLink, IsPart, IsRow, IsSpace, IsTree, IsValue, Link, Macro, Part, Preamble, PreambleTree, Quoted, Row, Tree, Value, close_byte, is_comment, is_type}
pub use Rattle.bib_spec.specs.Tree.{last_comma_bytes, row_bytes, tree_bytes, value_bytes}
pub use Rattle.edit_spec.specs.EditChunks.{entry_chunks, items_chunks, kept_items, kept_rows, pieces_of, token}
pub use Rattle.edit_spec.specs.Edits.{AddEntry, AddMany, Ambiguous, BadKey, BadName, BadPosition, BadValue, DropField, Edit, FileTooLong, HasCleanTexts, InlineMacro, IntroduceMacro, IsAccepted, KeyInUse, MoveEntry, NameInUse, NewEntry, NotFound, Referred, Refuses, RegenerateKeys, RemoveEntry, SetType, UndefineMacro, RenameField, DefineMacro, SetMacro}
pub use Rattle.edit_spec.specs.Edits.{RenameKey, RenameMacro, SetField, TextTooLong, WouldMerge, add_entry, add_many, assignment_with, changed, defines, definition_as, definition_of, edited, entry_of, entry_with_field, entry_without_field, from_first, holders, in_braces, in_line, inline_macro, introduce_macro}
pub use Rattle.edit_spec.specs.Edits.{introduced, is_entry, item_of, item_with, items_with, items_with_keys, key_for, leaving, link_with, name_renamed, new_row, next_number, of_entry, part_introduced, regenerate_keys, remove_entry, rename_macro, row_before, row_to, row_with, text_of_macro}
pub use Rattle.edit_spec.specs.Edits.{tree_with, tree_with_keys, use_inlined, use_renamed, uses_inlined, value_with, with_crossref, with_field, with_first_tree, with_item, with_keys, with_value, without_field, without_first}
pub use Rattle.edit_spec.specs.Examples.{author_year, one_field}
pub use Rattle.edit_spec.specs.Laws.{KeepsEntries, is_after, is_reached, record_with_key}
pub use Rattle.edit_spec.specs.OtherLaws.{entries_before, is_awaited, number_with_one_more}
pub use Rattle.part_spec.specs.Parts.{any_part, holds, uses}
pub use Rattle.std.proofs.Common.{All, Bool, List, None, Option, Some, add-one, add-zero, ap, append-nil, append_assoc, ap₂, arith, codes, cond, count_by, drop, eq-eqb, false, filter, filter_map, find, insert, is_none, is_some, le_of_suc-le-suc, length, map, nat_le, nat_lt, not, not-suc-le-zero}
pub use Rattle.std.proofs.Common.{option_and_then, option_map, refl, reverse, slice_get, subst, suc, suc-le-suc, sym, take, true, unwrap_or, zero, zero-add, zero-lt-suc, ℕ, ⊎_elim, ◌&&◌, ◌++◌, ◌+◌, ◌<◌, ◌==◌, ◌||◌, ◌∙◌, ◌∷◌, ◌≡◌, ◌≢◌, ◌≤◌}
pub use Rattle.std.proofs.Math.Path.{fun_ext}
pub use Rattle.std.proofs.lemmas.Bool.{and_cases, and_from, and_parts, both_ways, cases_Bool, cond-false, cond-true, cond_both, eqb-false, false_from_ne_true, false≢true, leb-true, ltb-false, not-false, not-true, not_from_false, or_cases, or_from, or_parts, true_from_ne_false}
pub use Rattle.std.proofs.lemmas.List.Concat.{flat_map-append}
pub use Rattle.std.proofs.lemmas.List.Elements.{All-append, All-cons, All-head, All-nil, All-tail}
pub use Rattle.std.proofs.lemmas.List.Folds.{list_all-append}
pub use Rattle.std.proofs.lemmas.Option.{cond_some, none-some, same_Some}
pub use Rattle.std.specs.Char.{is_ascii_digit}
pub use Rattle.std.specs.List.{AllByRecursion, AllPass, cons_option, enumerate_from, flat_map, list_all, list_any}
pub use Rattle.std.specs.Option.{option_map_or}
pub use Rattle.std.specs.Str.{bytes_eq}
pub use mathlib.Core.List.{reverse-cons}
