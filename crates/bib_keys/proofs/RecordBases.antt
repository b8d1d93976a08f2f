-- The label base of a record is made of some fields alone, and of what each of its ancestors gives to a label.
use Rattle.bib_keys.proofs.Words.{◌≡◌, ◌∙◌, ℕ, List, [], ◌∷◌, ◌++◌, Some, option_map, slice_get, refl, sym, ap, same_Some, Text, EntryTexts, record_of, parent, lineage, parts_of, no_parts, parts_with, base_from, LabelParts, label_fields, with_parent, parts_along}
use Rattle.std.proofs.Common.{fold}
use Rattle.bib_spec.specs.Records.{Record, fields_at, missing, with_inherited}
use Rattle.bib_store.specs.Choosing.{chosen}
use Rattle.bib_store.proofs.ChosenFields.{chosen_inherited}
use Rattle.bib_store.proofs.Inherited.{record_with, fields_along, expanded_along}
use Rattle.bib_names.specs.Label.{Fields, label_names, label_base}
use Rattle.bib_names.proofs.LabelFields.{base_kept}
use Rattle.bib_names.proofs.LabelPartLaws.{base_of_parts, parts_inherited, parts_alone, parts_further}

module _ (entries : List EntryTexts) where
  -- the fields, and those that are missing of entry n that labels are made of
  abbrev with_its : Fields → ℕ → Fields
  with_its fields n = fields ++ missing fields (label_fields entries n)

  chosen_along : (own : Fields) (ns : List ℕ) → chosen label_names (with_inherited entries own ns) ≡ fold with_its (chosen label_names own) ns
  chosen_along own [] = refl
  chosen_along own (n ∷ ns) =
      chosen_along (own ++ missing own (fields_at entries n)) ns ∙ ap (λ (fields : Fields). fold with_its fields ns) (chosen_inherited label_names own (fields_at entries n))

  given_along : (fields : Fields) (ns : List ℕ) → parts_of (fold with_its fields ns) ≡ fold (with_parent entries) (parts_of fields) ns
  given_along fields [] = refl
  given_along fields (n ∷ ns) =
      given_along (with_its fields n) ns ∙ ap (λ (parts : LabelParts). fold (with_parent entries) parts ns) (parts_inherited fields (label_fields entries n))

  joined : (a b : LabelParts) (ns : List ℕ) → fold (with_parent entries) (parts_with a b) ns ≡ parts_with a (fold (with_parent entries) b ns)
  joined a b [] = refl
  joined a b (n ∷ ns) =
      ap (λ (parts : LabelParts). fold (with_parent entries) parts ns) (parts_further a b (parts_of (label_fields entries n))) ∙ joined a (with_parent entries b n) ns

  -- what own fields give with what is inherited is what all that is gathered gives
  own_and_along : (fields : Fields) (ns : List ℕ) → parts_with (parts_of fields) (parts_along entries ns) ≡ parts_of (fold with_its fields ns)
  own_and_along fields ns =
      sym (joined (parts_of fields) no_parts ns)
      ∙ ap (λ (parts : LabelParts). fold (with_parent entries) parts ns) (parts_alone (parts_of fields))
      ∙ sym (given_along fields ns)

-- the label base of an entry's record, from its own fields and from what is given along its lineage
pub base_along : (names : List Text) (entries : List EntryTexts) (depth n : ℕ) (entry : EntryTexts) (fields : Fields) → names ≡ label_names → slice_get entries n ≡ Some entry
    → fields ≡ chosen names (fields_at entries n)
    → base_from (parts_with (parts_of fields) (parts_along entries (lineage (parent entries) depth n))) ≡ label_base (record_of depth entries n entry).fields
base_along names entries depth n entry fields are at is =
    let line : List ℕ = lineage (parent entries) depth n in
    let own : fields ≡ label_fields entries n = is ∙ ap (λ (ns : List Text). chosen ns (fields_at entries n)) are in
    let whole : record_with entry (fields_along entries depth n) ≡ record_of depth entries n entry =
    same_Some (record_with entry (fields_along entries depth n)) (record_of depth entries n entry) (sym (expanded_along entries depth n entry at) ∙ ap (option_map (record_of depth entries n)) at) in
    ap (λ (f : Fields). base_from (parts_with (parts_of f) (parts_along entries line))) own
    ∙ ap base_from (own_and_along entries (label_fields entries n) line)
    ∙ base_of_parts (fold (with_its entries) (label_fields entries n) line)
    ∙ ap label_base (sym (chosen_along entries (fields_at entries n) line))
    ∙ base_kept (fields_along entries depth n)
    ∙ ap (λ (r : Record). label_base r.fields) whole
