-- The words that most proofs of this crate cite, passed on from one place. Declares nothing.
pub use Rattle.bib_answers.specs.Check.{Assigned, assigned, defined_in, entries_before, extra_report, field_reports, reports_on, use_report, use_reports}
pub use Rattle.bib_answers.specs.Cite.{listed_line}
pub use Rattle.bib_answers.specs.Entries.{key_at}
pub use Rattle.bib_answers.specs.Fields.{AreFieldsOf, AreSound}
pub use Rattle.bib_answers.specs.FindingLines.{Written, with_findings}
pub use Rattle.bib_answers.specs.Json.{not_utf8_line}
pub use Rattle.bib_answers.specs.Labels.{AreLabelRows, keyed_line, records_at}
pub use Rattle.bib_answers.specs.Lint.{Finding, crossref_findings, crossrefs_of, field_findings, use_findings, value_findings}
pub use Rattle.bib_answers.specs.Marks.{AreMarks}
pub use Rattle.bib_answers.specs.Names.{before_lines, name_lines}
pub use Rattle.bib_answers.specs.NewKeys.{new_key_line}
pub use Rattle.bib_answers.specs.Outcome.{answer_of}
pub use Rattle.bib_answers.specs.Positions.{IsKnown, is_line_feed, position, position_after}
pub use Rattle.bib_answers.specs.Recurring.{AreTold, hash_from}
pub use Rattle.bib_answers.specs.Seen.{IsAt}
pub use Rattle.bib_answers.specs.Show.{shown_field}
pub use Rattle.bib_answers.specs.declared.name_filter.NameFilter.{NameFilter}
pub use Rattle.bib_answers.specs.declared.positions.Position.{Position}
pub use Rattle.bib_definitions.specs.Definitions.{is_definition_tree}
pub use Rattle.bib_keys.proofs.Walks.{next-of}
pub use Rattle.bib_names.specs.Label.{labels_of}
pub use Rattle.bib_scan.specs.PartView.{part_view}
pub use Rattle.bib_scan.specs.View.{Field, View, field_seen, fields_of, key_of, kind_of, view_of}
pub use Rattle.bib_spec.proofs.Parents.{named_within}
pub use Rattle.bib_spec.specs.Fault.{IsReadFault}
pub use Rattle.bib_spec.specs.Reading.{Item, Reading}
pub use Rattle.bib_spec.specs.Records.{EntryTexts, Record, entries_of, entry_named, expanded, is_repeated, keys_of, parent, record_of}
pub use Rattle.bib_spec.specs.Text.{Text, folded, same}
pub use Rattle.bib_spec.specs.Texts.{Macros, macros_at}
unfoldable pub use Rattle.bib_spec.specs.Texts.{months}
pub use Rattle.bib_spec.specs.Tree.{CommentTree, DefinitionTree, EntryTree, Part, PreambleTree, Tree, is_comment}
pub use Rattle.bib_store.specs.Readings.{OfReading, entry_items, is_entry_tree}
pub use Rattle.bib_value.proofs.RawLemmas.{parts_counted}
pub use Rattle.bib_value.specs.Raw.{OfValue}
pub use Rattle.entry_json.specs.EntryJson.{is_told_utf8}
pub use Rattle.std.proofs.Common.{All, Bool, Bor, List, None, Ok, Option, Some, [], ap, append-nil, append_assoc, ap₂, cond, drop, false, filter, fold, get_or, length, map, min, not, option_map, refl, rules, slice_get, subst, suc, sym, take, true, zero, zip, ℕ, ⊎_elim, ◌++◌, ◌+◌, ◌-◌, ◌<◌, ◌==◌}
pub use Rattle.std.proofs.Common.{◌^◌, ◌∙◌, ◌∷◌, ◌≡◌, ◌≢◌, ◌≤◌}
pub use Rattle.std.proofs.Math.Seq.{take-length}
pub use Rattle.std.proofs.lemmas.Bool.{cases_Bool, cond-false, cond-true, false≢true}
pub use Rattle.std.proofs.lemmas.List.{flat_map_more, length-map, take-append-drop, take_all, take_more}
pub use Rattle.std.proofs.lemmas.List.Elements.{filter_map-append}
pub use Rattle.std.proofs.lemmas.Option.{get_or_from_slice_get, same_Some, slice_get-map, slice_get_cases, slice_get_within}
pub use Rattle.std.proofs.lemmas.Result.{IfOk-weaker, on_ok_weaker}
pub use Rattle.std.proofs.lemmas.Slice.Zip.{get_or-zip, length-zip}
pub use Rattle.std.specs.List.{cons_option, flat_map, list_any, range_with_len}
pub use Rattle.std.specs.Option.{IfSome, option_copied, option_map_or}
