-- Labels are made of some fields alone.
use Rattle.std.proofs.Common.{◌≡◌, ◌∙◌, true, not, cond, nat_lt, List, [], ◌++◌, length, take, filter, Option, Result, Ok, Err, codes, refl, ap}
use Rattle.std.specs.List.{list_all, list_any}
use Rattle.std.specs.Option.{option_map_or}
use Rattle.std.specs.Str.{bytes_eq}
use Rattle.std.proofs.lemmas.Slice.Eq.{bytes_eq-Decides}
use Rattle.bib_spec.specs.Text.{Text, is_space, same}
use Rattle.bib_spec.specs.Texts.{is_empty}
use Rattle.bib_spec.specs.Records.{Record, RecordField}
use Rattle.bib_names.specs.Label.{Fields}
use Rattle.bib_names.specs.declared.fault.NameFault.{NameFault}
use Rattle.bib_names.proofs.LabelFields.{find_filtered}
use Rattle.bibtex_names.specs.declared.name.Name.{Name}
use Rattle.bibtex_labels.specs.Fields.{field_in, or_else, is_book, is_proceedings, is_corporate, persons_of, organization_of, names_in, map_ok}
use Rattle.bibtex_labels.specs.Label.{label_names, letters_of_names, letters_without_names, letters_of, without_front, sorted_names, sorted_persons, sorted_title, last_bytes, labelled_by, labelled}
use Rattle.bibtex_labels.specs.Order.{kept}
use Rattle.bibtex_labels.specs.Pieces.{text_prefix}
use Rattle.bibtex_labels.specs.Purified.{purified, sortified}

-- the fields that have one of these names
abbrev pub chosen : List Text → Fields → Fields
chosen names fields = filter (λ field. list_any (same field.0) names) fields

-- the text of a field of one of the names
field_kept : (names : List Text) (name : Text) → list_any (same name) names ≡ true → (fields : Fields) → field_in (chosen names fields) name ≡ field_in fields name
field_kept names name is fields =
    ap (λ (o : Option RecordField). let text = option_map_or (λ (field : RecordField). field.1) o [] in cond (list_all is_space text) [] text)
    (find_filtered (λ (f : RecordField). bytes_eq f.0 name) (λ f. list_any (same f.0) names) fields (λ f eq. ap (λ (t : Text). list_any (same t) names) ((bytes_eq-Decides f.0 name).0 eq) ∙ is))

module _ (r : Record) where
  -- the record without its other fields
  abbrev bare : Record
  bare = record { kind_name = r.kind_name; key = r.key; fields = chosen label_names r.fields }

  author : field_in (chosen label_names r.fields) (codes "author") ≡ field_in r.fields (codes "author")
  author = field_kept label_names (codes "author") refl r.fields

  editor : field_in (chosen label_names r.fields) (codes "editor") ≡ field_in r.fields (codes "editor")
  editor = field_kept label_names (codes "editor") refl r.fields

  key_text : field_in (chosen label_names r.fields) (codes "key") ≡ field_in r.fields (codes "key")
  key_text = field_kept label_names (codes "key") refl r.fields

  organization_text : field_in (chosen label_names r.fields) (codes "organization") ≡ field_in r.fields (codes "organization")
  organization_text = field_kept label_names (codes "organization") refl r.fields

  title : field_in (chosen label_names r.fields) (codes "title") ≡ field_in r.fields (codes "title")
  title = field_kept label_names (codes "title") refl r.fields

  year : field_in (chosen label_names r.fields) (codes "year") ≡ field_in r.fields (codes "year")
  year = field_kept label_names (codes "year") refl r.fields

  persons : persons_of bare ≡ persons_of r
  persons = λ i. cond (is_book r.kind_name) (or_else (author i) (editor i)) (cond (is_proceedings r.kind_name) (editor i) (author i))

  organization : organization_of bare ≡ organization_of r
  organization = ap (λ (t : Text). cond (is_corporate r.kind_name) t []) organization_text

  letters_alone : letters_without_names bare ≡ letters_without_names r
  letters_alone = λ i. cond (not (is_empty (key_text i))) (text_prefix 3 (key_text i))
      (cond (not (is_empty (organization i))) (text_prefix 3 (without_front (codes "The ") (organization i))) (take 3 r.key))

  letters : (names : List Name) → letters_of bare names ≡ letters_of r names
  letters names = ap (λ (t : Text). cond (nat_lt 0 (length names)) (letters_of_names names) t) letters_alone

  sorted : (names : List Name) → sorted_persons bare names ≡ sorted_persons r names
  sorted names = λ i. cond (nat_lt 0 (length names)) (sorted_names names)
      (cond (not (is_empty (organization i))) (sortified (without_front (codes "The ") (organization i))) (sortified (key_text i)))

  -- a record with these names
  by_same : (names : List Name) → labelled_by bare names ≡ labelled_by r names
  by_same names = λ i.
      let sort_label : Text = kept (sortified (letters names i ++ last_bytes 4 (purified (year i)))) in
      record {
        label = kept (letters names i ++ last_bytes 2 (purified (year i)));
        sort_label = sort_label;
        sort_key = kept (sort_label ++ (codes "    " ++ (sorted names i ++ (codes "    " ++ (sortified (year i) ++ (codes "    " ++ sorted_title (title i)))))));
        key = r.key;
      }

  -- a record is labelled as it is without its other fields
  pub labelled_kept : labelled (record { kind_name = r.kind_name; key = r.key; fields = chosen label_names r.fields }) ≡ labelled r
  labelled_kept = ap (λ (text : Text). map_ok (labelled_by bare) (names_in text)) persons ∙ at (names_in (persons_of r))
    where
      at : (names : Result (List Name) NameFault) → map_ok (labelled_by bare) names ≡ map_ok (labelled_by r) names
      at (Ok names) = ap (λ l. Ok l) (by_same names)
      at (Err fault) = refl
