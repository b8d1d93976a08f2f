-- What follows for files that agree. Each law is proved.
use Rattle.std.specs.Prelude.{ℕ, ◌≡◌, List, length, Option, Some, None, option_map, option_and_then, find, slice_get}
use Rattle.bib_spec.specs.Text.{Text, same}
use Rattle.bib_spec.specs.Records.{EntryTexts, Record, RecordField, crossref_text, target, parent, expanded}
use Rattle.diff_spec.specs.Agreement.{EntriesAgree}

-- the text of a record's field of this name, if there is one
abbrev pub text_named : Text → List RecordField → Option Text
text_named name fields = option_map (λ field. field.1) (find (λ field. same field.0 name) fields)

-- Two records agree by name: they have the same type, the same key, and of each field name the same text, or none.
pub record AgreeByName (old new : Record) : Type 0 where
  pub kind_name : old.kind_name ≡ new.kind_name
  pub key : old.key ≡ new.key
  pub texts : (name : Text) → text_named name old.fields ≡ text_named name new.fields

-- both are there, and they are related, or neither is there
abbrev pub BothOrNone : {X : Type 0} → (X → X → Type 0) → Option X → Option X → Type 0
BothOrNone Related None None = Unit {0}
BothOrNone Related None (Some y) = ⊥
BothOrNone Related (Some x) None = ⊥
BothOrNone Related (Some x) (Some y) = Related x y

-- As many entries; each has the record, by name, of the one at its place, whatever it inherits, and the same crossref text, target
-- and parent.
pub record HaveTheSameRecords (old new : List EntryTexts) : Type 0 where
  pub count : length old ≡ length new
  pub records : (depth n : ℕ) → BothOrNone AgreeByName (expanded depth old n) (expanded depth new n)
  pub crossrefs : (n : ℕ) → option_and_then crossref_text (slice_get old n) ≡ option_and_then crossref_text (slice_get new n)
  pub targets : (n : ℕ) → target old n ≡ target new n
  pub parents : (n : ℕ) → parent old n ≡ parent new n

-- entries that agree have the same records at every depth, and the same parents
abbrev pub agreement_is_of_records : Type 0
agreement_is_of_records = (old new : List EntryTexts) → EntriesAgree old new → HaveTheSameRecords old new
