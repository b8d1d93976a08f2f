-- The words that most proofs of this crate cite, passed on from one place. Declares nothing.
pub use Rattle.bib_names.specs.Counts.{times}
pub use Rattle.bib_names.specs.Label.{Fields, balances, count_of, first_three, initials_template, label_at, label_base, letters_of_names, letters_of_one, listed_names, or_anon, print_of, text_in}
pub use Rattle.bib_names.specs.LabelNames.{letters_printed}
pub use Rattle.bib_names.specs.LabelParts.{base_from, parts_with}
pub use Rattle.bib_names.specs.Marks.{is_dropped_at_end}
pub use Rattle.bib_names.specs.Name.{is_free, is_von}
pub use Rattle.bib_names.specs.Places.{between, is_level, places_from}
pub use Rattle.bib_names.specs.Printing.{finished, initial, joined, printed, printed_with_trail, printed_words, shown}
pub use Rattle.bib_names.specs.Scanning.{AreBraces, IsSpecial, chars_from}
pub use Rattle.bib_names.specs.Special.{begins_char, begins_special, is_opening, is_plain, next_level, text_chars}
pub use Rattle.bib_names.specs.Template.{Pattern}
pub use Rattle.bib_names.specs.Words.{NameWord}
pub use Rattle.bib_names.specs.declared.label_fields.LabelParts.{LabelParts}
pub use Rattle.bib_names.specs.declared.name.Name.{Name}
pub use Rattle.bib_names.specs.declared.template.Form.TheVariants.{Initials}
pub use Rattle.bib_names.specs.declared.template.Group.{Group}
pub use Rattle.bib_names.specs.declared.template.Part.{Part}
pub use Rattle.bib_names.specs.declared.template.Part.TheVariants.{Last, Von}
pub use Rattle.bib_spec.specs.MadeKeys.{letters}
pub use Rattle.bib_spec.specs.Records.{RecordField}
pub use Rattle.bib_spec.specs.Text.{Text, closed_before, opened_before, same}
pub use Rattle.bib_text.proofs.TrimLemmas.{IsTrimming, IsTrimming-done, IsTrimming-less, IsTrimming-none}
pub use Rattle.std.proofs.Common.{Bool, Bor, List, [], add-zero, ap, append-nil, ap₂, arith, below_more, cond, drop, eqb, false, get_or, length, lit<, map, refl, rules, subst, suc, sym, take, true, zero, ℕ, ◌++◌, ◌+◌, ◌-◌, ◌<◌, ◌==◌, ◌∙◌, ◌∷◌, ◌≡◌, ◌≢◌, ◌≤◌}
pub use Rattle.std.proofs.Math.Bool.{and-false, or-true}
pub use Rattle.std.proofs.Math.Dec.{leb, ltb}
pub use Rattle.std.proofs.lemmas.Bool.{and_parts, eq-eqb, eqb-true, false≢true, le-leb, le-ltb, leb-true, lt-ltb, ltb-false, ltb-true, not-true}
pub use Rattle.std.proofs.lemmas.List.{drop_all, get_or-drop, length-append, length-drop, map-append, take-append-drop, take_all}
pub use Rattle.std.proofs.lemmas.List.Sums.{count_by-le-length, count_by_more_no, count_by_more_yes, sum_by-append}
pub use Rattle.std.proofs.lemmas.Result.{IfOk-weaker}
pub use Rattle.std.proofs.lemmas.Slice.Eq.{bytes_eq-Decides}
pub use Rattle.std.specs.List.{find, flat_map, list_all, list_any, prefix_len, range_with_len, slice_range}
pub use Rattle.std.specs.Option.{option_map_or, option_or}
pub use Rattle.std.specs.Prelude.{IfSome, count_by, ◌&&◌}
pub use Rattle.std.specs.Str.{bytes_eq}
