-- Whether the entries of two open files agree, one by one.
use Rattle.std.specs.Prelude.{ℕ, ◌≡◌, List, Some, slice_get}
use Rattle.std.specs.List.{AllByRecursion}
use Rattle.bib_spec.specs.Text.{Text, folded}
use Rattle.bib_spec.specs.Records.{EntryTexts, entries_of}
use Rattle.bib_scan.specs.View.{Field, View}
use Rattle.folded_map.specs.FoldedMap.{value_at}
use Rattle.bib_store.specs.Readings.{OfReading}
use Rattle.diff_spec.specs.Agreement.{SayTheSame}
use Rattle.bib_diff.specs.Texts.{Map}

-- both maps have the same text for this name, or none
abbrev pub HaveAlike : Map → Map → Text → Type 0
HaveAlike old new name = value_at old (folded name) ≡ value_at new (folded name)

-- both maps have the same texts for the names of these fields
abbrev pub HaveAllAlike : Map → Map → List Field → Type 0
HaveAllAlike old new fields = AllByRecursion (λ (field : Field). HaveAlike old new field.name) fields

-- what is known of the entry with this number, if there is one
abbrev pub OfEntry : Text → ℕ → (EntryTexts → Type 0) → Type 0
OfEntry file n P = OfReading file (λ db. (entry : EntryTexts) → slice_get (entries_of db) n ≡ Some entry → P entry)

-- the entries with this number say the same in both files
abbrev pub SameAt : ℕ → Text → Text → Type 0
SameAt n old new = OfEntry old n (λ was. OfEntry new n (λ is. SayTheSame was is))

-- the views have the same type, folded, the same key, and both maps have the same texts for the names of their fields
pub record ShowTheSame (was is : View) (old new : Map) : Type 0 where
  pub kind : folded was.type_name ≡ folded is.type_name
  pub key : was.key ≡ is.key
  pub first : HaveAllAlike old new was.fields
  pub second : HaveAllAlike old new is.fields

-- the views have the same type, folded, the same key, and both maps have the same texts
pub record AreTheSame (was is : View) (old new : Map) : Type 0 where
  pub kind : folded was.type_name ≡ folded is.type_name
  pub key : was.key ≡ is.key
  pub texts : (name : Text) → HaveAlike old new name
