-- The words that most proofs of this crate cite, passed on from one place. Declares nothing.
pub use Rattle.bib_scan.specs.Braces.{IsBraceAt, IsMarked}
pub use Rattle.bib_scan.specs.Code.{halt_of}
pub use Rattle.bib_scan.specs.DelimiterView.{delimiter_view}
pub use Rattle.bib_scan.specs.FieldsLeft.{all_fields_left, first_and_others, first_field, kind_after, kind_named, read_head, read_opening, read_row_field}
unfoldable pub use Rattle.bib_scan.specs.FieldsLeft.{fields_left}
pub use Rattle.bib_scan.specs.Layout.{IsLayoutOf, Places, places_of, span_of, start_of, trail_end}
pub use Rattle.bib_scan.specs.LeftToRight.{Assigned, Halt, Read, begins_name, delimiter_of, expected, go_on, nothing_after, past_byte, past_hash, read_all_commands, read_all_rows, read_close, read_comma, read_definition, read_equals, read_name, read_preamble, read_run, read_value, read_value_rest}
pub use Rattle.bib_scan.specs.LeftToRight.{read_whole_value, span, stop, with_front, ◌>>=◌}
unfoldable pub use Rattle.bib_scan.specs.LeftToRight.{next_command, read_assignment, read_body, read_braced, read_command, read_commands, read_entry, read_links, read_part, read_quoted, read_row, read_rows}
pub use Rattle.bib_scan.specs.Note.{is_crossref}
pub use Rattle.bib_scan.specs.NotesLeft.{crossref_left, head_after, left_of_crossref, note_at, note_from, read_entry_head, read_note}
pub use Rattle.bib_scan.specs.PartsLeft.{part_span, read_all_parts, read_link, unless_end}
unfoldable pub use Rattle.bib_scan.specs.PartsLeft.{read_parts}
pub use Rattle.bib_scan.specs.Progress.{AreAllOf, IsItemOf, Progress}
pub use Rattle.bib_scan.specs.ReadSoFar.{CommandsOn, Next, NotedOn}
pub use Rattle.bib_scan.specs.ValueParts.{IsPartsOf, link_part, part_kind, parts_of}
pub use Rattle.bib_scan.specs.View.{Field, field_after, fields_after, view_of}
pub use Rattle.bib_scan.specs.declared.class.TheConstants.{CLASSES, KEYS}
pub use Rattle.bib_scan.specs.declared.layout.Span.{Span}
pub use Rattle.bib_scan.specs.declared.note.EntryHead.{EntryHead}
pub use Rattle.bib_scan.specs.declared.note.Note.{Note}
pub use Rattle.bib_scan.specs.declared.parts.PartSpan.{PartSpan}
pub use Rattle.bib_scan.specs.declared.view.Kind.{Kind}
pub use Rattle.bib_spec.specs.Bytes.{comma, digit_one, letter_x, name_limit, quote}
pub use Rattle.bib_spec.specs.Clean.{IsClean, opens_body}
unfoldable pub use Rattle.bib_spec.specs.Clean.{begins_command}
pub use Rattle.bib_spec.specs.Fault.{ExpectedCommaOrClose, ExpectedEquals, ExpectedName, ExpectedValue, IsFaultAt, IsOneTooLong, IsReadFault, KeyTooLong, MayStand, ReadingFault, TextKind, UnbalancedBrace, Unended}
pub use Rattle.bib_spec.specs.Reading.{FailsAt, HasReadingWithin, IsItem, IsValueWithin, IsViable, Item, Reading, Reads, ReadsWithin, bytes_of, item_bytes}
pub use Rattle.bib_spec.specs.Records.{crossref}
pub use Rattle.bib_spec.specs.Text.{Text, after_run, closed_before, does_not_begin_with, is_type_byte, opened_before, same}
unfoldable pub use Rattle.bib_spec.specs.Text.{is_name_byte, is_name_within, is_space}
pub use Rattle.bib_spec.specs.Tree.{Assignment, Brace, Braced, CommentTree, Definition, DefinitionTree, Delimiter, Entry, EntryTree, Head, IsAssignment, IsDefinition, IsEntry, IsHead, IsLastComma, IsLink, IsOpening, IsPart, IsPreamble, IsRow, IsSpace, IsTree, IsValue, Link, Macro, Opening, Paren}
pub use Rattle.bib_spec.specs.Tree.{Part, Preamble, PreambleTree, Quoted, Row, Tree, Value, after_key_bytes, assignment_bytes, close_byte, goes_on_key, head_bytes, is_no_keyword, last_comma_bytes, link_bytes, open_byte, opening_bytes, part_bytes, row_bytes, tree_bytes, value_bytes}
pub use Rattle.memchr.specs.Find.{IsFirstByte, NoneBefore, Nowhere, is_byte, is_byte2, is_byte3}
pub use Rattle.std.proofs.Common.{Bool, Err, List, None, Ok, Option, Result, Some, [], ap, append-nil, append_assoc, ap₂, arith, bit_and, cond, drop, eqb, false, get_or, inl, inr, length, ltb, map, refl, rules, slice_index, subst, suc, sym, take, true, zero, ℕ, ◌&&◌, ◌++◌, ◌+◌, ◌-◌, ◌<◌, ◌==◌, ◌||◌}
pub use Rattle.std.proofs.Common.{◌↔◌, ◌∙◌, ◌∷◌, ◌≡◌, ◌≢◌, ◌≤◌, ◌⊎◌}
pub use Rattle.std.proofs.lemmas.Bool.{and_from, and_left, and_parts, both_ways, cases_Bool, cases_eq, cases_lt, cond-false, cond-true, eq-eqb, eqb-false, eqb-true, false_from_ne_true, lt-ltb, ltb-true, ne_eqb, not-true, not_from_false, or_cases, or_from, or_parts}
pub use Rattle.std.proofs.lemmas.List.{append_cancel_right, drop-drop, drop_all, drop_at, drop_more, get_or-drop, length-append, length-drop, length-map, length-take-le, take-append-drop, take-take, take_at}
pub use Rattle.std.proofs.lemmas.List.Elements.{All-cons, All-head, All-nil, All-push, All-tail, All-take}
pub use Rattle.std.proofs.lemmas.List.Sums.{list_all-from_AllPass, prefix_len-le-length, prefix_len_passes}
pub use Rattle.std.proofs.lemmas.Option.{get_or_from_slice_get, none-some, same_Some, slice_get-get_or, slice_get_within}
pub use Rattle.std.proofs.lemmas.Result.{err_from_is_err_and}
pub use Rattle.std.specs.Char.{is_ascii_digit}
pub use Rattle.std.specs.Int.{bit_at}
pub use Rattle.std.specs.List.{All, AllPass, enumerate_from, flat_map, prefix_len, take_while}
pub use Rattle.std.specs.Option.{option_map_or}
pub use Rattle.std.specs.Prelude.{codes, find}
pub use Rattle.std.specs.Result.{result_ok}
