-- The words that most proofs of this crate cite, passed on from one place. Declares nothing.
pub use Rattle.bib_keys.specs.Dangling.{dangling_at}
pub use Rattle.bib_keys.specs.MadeBase.{made_base}
pub use Rattle.bib_keys.specs.Parents.{AreKnown, AreParents, KeepTheSame, kept_of, label_fields, parts_along, with_parent}
pub use Rattle.bib_keys.specs.TakenKeys.{AreTaken, AreTried, taken_in}
pub use Rattle.bib_keys.specs.declared.taken_keys.TakenKeys.{TakenKeys}
pub use Rattle.bib_names.specs.LabelParts.{base_from, no_parts, parts_of, parts_with}
pub use Rattle.bib_names.specs.declared.label_fields.LabelParts.{LabelParts}
pub use Rattle.bib_spec.specs.Bytes.{name_limit}
pub use Rattle.bib_spec.specs.Lineages.{lineage}
pub use Rattle.bib_spec.specs.MadeKeys.{candidate, free_key, is_taken, letters}
pub use Rattle.bib_spec.specs.Reading.{Reading, Reads}
pub use Rattle.bib_spec.specs.Records.{EntryTexts, dangling_texts, entries_of, keys_of, parent, record_of}
pub use Rattle.bib_spec.specs.Text.{Text, folded}
pub use Rattle.bib_store.specs.Readings.{OfReading}
pub use Rattle.folded_map.specs.FoldedMap.{IsWith, value_at}
pub use Rattle.std.proofs.Common.{List, None, Option, Some, [], add-zero, ap, append-nil, append_assoc, ap₂, arith, drop, false, get_or, is_some, length, length-append, map, not, option_map, refl, reverse, slice_get, subst, suc, sym, true, zero, zero-add, ℕ, ⊎_elim, ◌++◌, ◌+◌, ◌-◌, ◌<◌, ◌^◌, ◌∙◌}
pub use Rattle.std.proofs.Common.{◌∷◌, ◌≡◌, ◌≤◌}
pub use Rattle.std.proofs.Math.ListN.{drop_of_length-le}
pub use Rattle.std.proofs.lemmas.Bool.{cases_Bool, cond-false, cond-true}
pub use Rattle.std.proofs.lemmas.List.{length-map}
pub use Rattle.std.proofs.lemmas.Option.{same_Some}
pub use Rattle.std.proofs.lemmas.Result.{IfOk-weaker}
pub use Rattle.std.specs.Borrow.{Bor}
pub use Rattle.std.specs.List.{AllByRecursion, cons_option}
pub use Rattle.std.specs.Option.{option_copied}
