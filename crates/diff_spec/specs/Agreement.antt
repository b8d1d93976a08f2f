-- Which files say the same, entry by entry. (dialect)
use Rattle.std.specs.Prelude.{◌≡◌, List, Option, option_map, find}
use Rattle.std.specs.List.{AllZip}
use Rattle.bib_spec.specs.Text.{Text, folded}
use Rattle.bib_spec.specs.Reading.{Reading, Reads}
use Rattle.bib_spec.specs.Texts.{field_text}
use Rattle.bib_spec.specs.Records.{EntryTexts, has_name, entries_of}

-- the field text of the entry's first field of this name, if there is one; `crossref` is a name like others here
abbrev pub text_at : Text → EntryTexts → Option Text
text_at name entry = option_map (λ field. field_text field.raw) (find (has_name name) entry.fields)

-- Two entries say the same: they have the same type, folded, the same key, byte for byte, and of each field name the same text, or
-- none. The order of the fields does not count, nor how a text is written.
pub record SayTheSame (old new : EntryTexts) : Type 0 where
  pub kind : folded old.kind ≡ folded new.kind
  pub key : old.key ≡ new.key
  pub texts : (name : Text) → text_at name old ≡ text_at name new

-- as many entries, which say the same, each as the one at its place
abbrev pub EntriesAgree : List EntryTexts → List EntryTexts → Type 0
EntriesAgree = AllZip SayTheSame

-- two files agree: their entries do
abbrev pub FilesAgree : Text → Text → Type 0
FilesAgree old new = (a b : Reading) → Reads old a → Reads new b → EntriesAgree (entries_of a) (entries_of b)
