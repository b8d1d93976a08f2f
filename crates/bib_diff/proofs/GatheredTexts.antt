-- Texts that are gathered from one field after another.
use Rattle.std.proofs.Common.{◌≡◌, ◌∙◌, Bool, true, false, cond, List, [], ◌∷◌, Option, Some, None, option_map, refl, sym, ap, map, find}
use Rattle.std.specs.List.{AllZip, AllByRecursion}
use Rattle.std.specs.Option.{option_or}
use Rattle.bib_spec.specs.Text.{Text, folded, same}
use Rattle.bib_spec.specs.Tree.{Row}
use Rattle.bib_spec.specs.Texts.{Macros, raw_text, field_text}
use Rattle.bib_spec.specs.Records as records
use Rattle.bib_spec.specs.Records.{has_name, field_of}
use Rattle.bib_scan.specs.View.{Field}
use Rattle.folded_map.specs.FoldedMap.{value_at}
use Rattle.bib_value.specs.Raw.{OfValue}
use Rattle.bib_store.specs.Gathering.{IsReadable, IsFieldOf}
use Rattle.bib_diff.specs.Texts.{Map, first_text, IsWithText, HaveShortNames, AreTextsOfRows}

-- the texts of the rows read so far are there, and `rest` is still to be read
pub record IsGathering (macros : Macros) (all rest : List Field) (texts : Map) : Type 0 where
  pub names : HaveShortNames rest
  pub found : (rows : List Row) → AllZip IsFieldOf all rows →
      (later : List Row) × AllZip IsFieldOf rest later × ((name : Text) → option_or (value_at texts (folded name)) (first_text name (map (field_of macros) later)) ≡ first_text name (map (field_of macros) rows))

pub gathering_start : (macros : Macros) (all : List Field) (texts : Map) → HaveShortNames all → ((name : Text) → value_at texts name ≡ None) → IsGathering macros all all texts
gathering_start macros all texts short none = record {
  names = short;
  found = λ rows zip. (rows, zip, λ name. ap (λ (o : Option Text). option_or o (first_text name (map (field_of macros) rows))) (none (folded name)));
}

-- what is found at the first of two, or else later
or_first : (o : Option Text) (found : Bool) (text : Text) (later : Option Text) → option_or (option_or o (cond found (Some text) None)) later ≡ option_or o (cond found (Some text) later)
or_first None true text later = refl
or_first None false text later = refl
or_first (Some x) found text later = refl

shown : (found : Bool) (field : records.Field) (later : Option records.Field) → option_map (λ (f : records.Field). field_text f.raw) (cond found (Some field) later) ≡ cond found (Some (field_text field.raw)) (option_map (λ f. field_text f.raw) later)
shown true field later = refl
shown false field later = refl

pub gathering_more : (macros : Macros) (all rest : List Field) (f : Field) (old new : Map) → IsGathering macros all (f ∷ rest) old
    → OfValue f.value (λ v. IsWithText old f.name (field_text (raw_text macros v)) new) → IsGathering macros all rest new
gathering_more macros all rest f old new h is = record {
  names = h.names.1;
  found = λ rows zip. let w = h.found rows zip in step rows w.0 w.1 w.2;
}
  where
    step : (rows later : List Row) → AllZip IsFieldOf (f ∷ rest) later → ((name : Text) → option_or (value_at old (folded name)) (first_text name (map (field_of macros) later)) ≡ first_text name (map (field_of macros) rows)) →
        (further : List Row) × AllZip IsFieldOf rest further × ((name : Text) → option_or (value_at new (folded name)) (first_text name (map (field_of macros) further)) ≡ first_text name (map (field_of macros) rows))
    step rows [] zip e = elim zip [ ]
    step rows (row ∷ further) zip e = (
      further,
      zip.1,
      λ name.
          let more = first_text name (map (field_of macros) further) in
          let text = field_text (raw_text macros row.assignment.value) in
          ap (λ (o : Option Text). option_or o more) (is row.assignment.value zip.0.is zip.0.value name
          ∙ ap (λ (n : Text). option_or (value_at old (folded name)) (cond (same n name) (Some text) None)) zip.0.name)
          ∙ or_first (value_at old (folded name)) (same row.assignment.name name) text more
          ∙ ap (option_or (value_at old (folded name))) (sym (shown (same row.assignment.name name) (field_of macros row) (find (has_name name) (map (field_of macros) further))))
          ∙ e name,
    )

pub gathering_all : (macros : Macros) (all : List Field) (texts : Map) → IsGathering macros all [] texts → AreTextsOfRows macros all texts
gathering_all macros all texts h rows zip name = let w = h.found rows zip in done w.0 w.1 (w.2 name)
  where
    or_none : (o : Option Text) → o ≡ option_or o None
    or_none None = refl
    or_none (Some x) = refl

    done : (later : List Row) → AllZip IsFieldOf [] later → option_or (value_at texts (folded name)) (first_text name (map (field_of macros) later)) ≡ first_text name (map (field_of macros) rows)
        → value_at texts (folded name) ≡ first_text name (map (field_of macros) rows)
    done [] zip e = or_none (value_at texts (folded name)) ∙ e
    done (_ ∷ _) zip e = elim zip [ ]

-- fields that can be read have short names
pub short_names : (macros : Macros) (fields : List Field) → AllByRecursion (IsReadable macros) fields → HaveShortNames fields
short_names macros [] all = tt
short_names macros (field ∷ fields) all = (all.0.name, short_names macros fields all.1)
