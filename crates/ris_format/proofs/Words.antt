-- The words that most proofs of this crate cite, passed on from one place. Declares nothing.
pub use Rattle.bib_names.proofs.BalanceLaws.{IsBalanced-from_test, balances-yes}
pub use Rattle.bib_names.proofs.LoopSteps.{made_all, made_more}
pub use Rattle.bib_names.specs.Label.{balances}
pub use Rattle.bib_names.specs.Name.{commas, is_comma, parts_of, without_end}
pub use Rattle.bib_names.specs.NameList.{cuts, is_and, is_cut, names_of}
pub use Rattle.bib_names.specs.Places.{Stretch, between, is_level, places_from, stretch}
pub use Rattle.bib_names.specs.Words.{NameWord}
pub use Rattle.bib_names.specs.declared.name.Name.{Name}
pub use Rattle.bib_spec.proofs.Names.{eq-true, true-eq}
pub use Rattle.bib_spec.specs.Records.{Record, RecordField}
pub use Rattle.bib_spec.specs.Text.{IsBalanced, Text, after_run, closed_before, opened_before, same}
unfoldable pub use Rattle.bib_spec.specs.Text.{is_new_key, is_space}
pub use Rattle.bib_spec.specs.Texts.{is_empty}
unfoldable pub use Rattle.bib_spec.specs.Texts.{field_text}
pub use Rattle.bib_text.specs.Trimming.{before_run, trimmed, up_to_last}
pub use Rattle.bib_value.proofs.FieldTextLemmas.{more_text, more_text-all}
pub use Rattle.bib_value.proofs.NeatTexts.{field_text-neat, neat-gap, neat-space, neat-word}
pub use Rattle.bib_value.specs.Spacing.{neat}
pub use Rattle.ris_format.specs.Dates.{Month, date_value, has_slash, read_month, read_year, shown, written_date, written_month, written_year}
pub use Rattle.ris_format.specs.Entry.{value_field}
pub use Rattle.ris_format.specs.Fitting.{has_own_text}
pub use Rattle.ris_format.specs.Keywords.{is_comma_byte, read_keywords, written_keywords}
pub use Rattle.ris_format.specs.Kinds.{is_article, is_entry_type, kind_of_entry, kind_of_ris, publisher_field, ris_type, serial_field}
pub use Rattle.ris_format.specs.Lines.{Tagged, are_neat_lines, has_bytes, has_tag, line, lines_of, read_lines, single, spaced, tagged, tagged_lines, value_at, values_at}
pub use Rattle.ris_format.specs.Mapping.{Fields, booktitle_text, field, field_names, has_text, is_dropped, is_filled, record_in, ris, text_of, written_fields, written_notes, written_numbers, written_publishers, written_titles}
pub use Rattle.ris_format.specs.Pages.{after_cut, are_two, before_cut, before_dash, has_dash, is_margin, is_no_hyphen, page, read_pages, written_end, written_start}
pub use Rattle.ris_format.specs.People.{Person, family, is_broken, is_opaque, is_plain_name, is_refused, is_somebody, lacks_and, name_pieces, part_text, person, read_name, read_people, ris_name, taken_apart, to_last_end, with_comma, words_end, written_name, written_people, written_person}
pub use Rattle.ris_format.specs.Pieces.{one, pieces_from, with_front}
pub use Rattle.ris_format.specs.Profile.{are_in_order, is_plain_field}
pub use Rattle.ris_format.specs.declared.kinds.Kind.{Kind}
pub use Rattle.ris_format.specs.declared.kinds.Kind.TheVariants.{Article, Book, Incollection, Inproceedings, Misc, Phdthesis, Techreport, Unpublished}
pub use Rattle.ris_text.specs.declared.records.RisLine.{RisLine}
pub use Rattle.std.proofs.Common.{Bool, Bor, [], ap, append-nil, ap₂, arith, below_more, cond, drop, eqb, false, get_or, inl, inr, length, ltb, refl, rules, subst, suc, sym, take, true, zero, ℕ, ⊎_elim, ◌&&◌, ◌++◌, ◌+◌, ◌-◌, ◌<◌, ◌||◌, ◌∙◌, ◌∷◌, ◌≡◌, ◌≤◌, ◌⊎◌}
pub use Rattle.std.proofs.Math.Seq.{drop-append-add}
pub use Rattle.std.proofs.lemmas.Bool.{and_from, and_left, and_parts, and_right, both_ways, cases_Bool, cases_lt, cond-false, cond-true, eq-eqb, eqb-true, false_from_ne_true, le-ltb, lt-ltb, ltb-true, ne_eqb, not-false, not-true, not_from_false, or_cases, or_from, or_left, or_parts, or_right}
pub use Rattle.std.proofs.lemmas.List.{drop-append-le, drop_all, get_or-append-add, get_or-drop, length-drop, length-map, length-take-le, map-append, take-append-drop, take-append-le, take_all}
pub use Rattle.std.proofs.lemmas.List.Elements.{filter-append}
pub use Rattle.std.proofs.lemmas.Result.{on_ok_weaker}
pub use Rattle.std.proofs.lemmas.Slice.Eq.{bytes_eq-Decides}
pub use Rattle.std.specs.Char.{to_ascii_lowercase}
pub use Rattle.std.specs.List.{AllByRecursion, flat_map, join_by, list_all, list_any, onto_first, prefix_len, slice_range, slice_split}
pub use Rattle.std.specs.Option.{option_map_or}
pub use Rattle.std.specs.Prelude.{None, Some, count_by, find, if◌then◌else◌, option_map}
pub use Rattle.std.specs.Str.{bytes_eq}
