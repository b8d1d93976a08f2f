-- The words that most proofs of this crate cite, passed on from one place. Declares nothing.
pub use Rattle.bib_spec.specs.Bytes.{line_feed, space}
pub use Rattle.bib_spec.specs.Text.{Text}
unfoldable pub use Rattle.bib_spec.specs.Text.{is_space}
pub use Rattle.bib_spec.specs.Texts.{is_empty, onto_first}
pub use Rattle.bib_text.specs.Trimming.{before_run, trimmed}
pub use Rattle.ris_text.specs.Code.{Inside, Outcome, Told, after_continuation, continuation, continues, inside, ris_file, ris_line, ris_record, told, told_inner, whole_record, with_front, with_record, with_skipped}
pub use Rattle.ris_text.specs.Laws.{just}
pub use Rattle.ris_text.specs.Lines.{Line, is_untagged, line_texts, lines_from, lines_of}
unfoldable pub use Rattle.ris_text.specs.Lines.{line_at, mark_len}
pub use Rattle.ris_text.specs.Reading.{GoesWrong, IsWrong, Reads, Says, begins_again, ends, inner, unended, untyped}
pub use Rattle.ris_text.specs.Rest.{IsLeft, rest_of}
pub use Rattle.ris_text.specs.Tags.{begin_tag, end_tag, is_rule, is_tag}
unfoldable pub use Rattle.ris_text.specs.Tags.{has_tag, is_known, tag_class}
pub use Rattle.ris_text.specs.Trees.{Begun, Block, IsBegun, IsTree, Paragraph, Tree, all_untagged, begun_lines, block_lines, file_of, is_inner, is_inner_paragraph, more, paragraph_lines, record_of, tree_lines}
unfoldable pub use Rattle.ris_text.specs.Trees.{joined}
pub use Rattle.ris_text.specs.Writing.{ended, ends_line, record_text, ris_text, written}
unfoldable pub use Rattle.ris_text.specs.Writing.{fits_line}
pub use Rattle.ris_text.specs.declared.fault.RisFault.{RisFault}
pub use Rattle.ris_text.specs.declared.fault.RisFault.TheVariants.{EmptyType, NoEnd, NoStart}
pub use Rattle.ris_text.specs.declared.lines.Class.{Class}
pub use Rattle.ris_text.specs.declared.lines.Class.TheVariants.{Begin, Blank, End, Known, Other, Untagged}
pub use Rattle.ris_text.specs.declared.records.RisFile.{RisFile}
pub use Rattle.ris_text.specs.declared.records.RisLine.{RisLine}
pub use Rattle.ris_text.specs.declared.records.RisRecord.{RisRecord}
pub use Rattle.std.proofs.Common.{Bool, [], ap, append-nil, append_assoc, arith, drop, false, get_or, inl, inr, length, map, min, refl, subst, suc, sym, take, true, ℕ, ◌++◌, ◌+◌, ◌<◌, ◌∙◌, ◌∷◌, ◌≡◌, ◌≢◌, ◌≤◌}
pub use Rattle.std.proofs.lemmas.Bool.{and_from, and_parts, cases_Bool, cases_lt, eqb-false, eqb-true, not-true}
pub use Rattle.std.proofs.lemmas.Grind.{flat_map-append}
pub use Rattle.std.proofs.lemmas.List.{length-take, take_all}
pub use Rattle.std.proofs.lemmas.Slice.Eq.{bytes_eq-Decides}
pub use Rattle.std.specs.List.{flat_map, list_all, list_any, prefix_len}
pub use Rattle.std.specs.Prelude.{Err, Ok, if◌then◌else◌, ◌⊎◌}
