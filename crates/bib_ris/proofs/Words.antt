-- The words that most proofs of this crate cite, passed on from one place. Declares nothing.
pub use Rattle.bib_data.specs.declared.edit.NewEntry.{NewEntry}
pub use Rattle.bib_keys.specs.MadeBase.{made_base}
pub use Rattle.bib_ris.specs.Drafts.{AreDraftsOf, bases_of, usable_keys, with_keys}
pub use Rattle.bib_ris.specs.Dropped.{dropped_lines}
pub use Rattle.bib_ris.specs.Import.{usable_ids}
pub use Rattle.bib_ris.specs.declared.drafts.Drafts.{Drafts}
pub use Rattle.bib_spec.specs.MadeKeys.{made_keys}
pub use Rattle.bib_spec.specs.Records.{Record, entries_of, expanded}
pub use Rattle.bib_spec.specs.Text.{Text}
unfoldable pub use Rattle.bib_spec.specs.Text.{is_new_key}
pub use Rattle.bib_store.specs.Choosing.{with_chosen}
pub use Rattle.bib_store.specs.Readings.{OfReading}
pub use Rattle.ris_format.specs.Entry.{are_balanced, entry_of}
pub use Rattle.ris_format.specs.Mapping.{ris}
pub use Rattle.ris_text.specs.Code.{ris_file}
pub use Rattle.ris_text.specs.Writing.{record_text}
pub use Rattle.ris_text.specs.declared.records.RisRecord.{RisRecord}
pub use Rattle.std.proofs.Common.{List, None, Option, Some, [], ap, append-nil, ap₂, arith, drop, false, filter, filter_map, get_or, length, map, not, option_map, refl, reverse, rules, subst, sym, take, true, ℕ, ◌++◌, ◌+◌, ◌<◌, ◌∙◌, ◌∷◌, ◌≡◌, ◌≤◌}
pub use Rattle.std.proofs.lemmas.Bool.{cases_Bool, cond-false, cond-true}
pub use Rattle.std.proofs.lemmas.Grind.{flat_map-append}
pub use Rattle.std.proofs.lemmas.List.{map-append, take_more}
pub use Rattle.std.proofs.lemmas.List.Elements.{filter_map-append}
pub use Rattle.std.specs.List.{cons_option, flat_map}
pub use Rattle.std.specs.Option.{option_map_or}
pub use Rattle.std.specs.Prelude.{Ok}
