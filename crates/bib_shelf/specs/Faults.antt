-- Why files are not on a shelf together. (dialect)
use Rattle.std.specs.Prelude.{ℕ, ◌≡◌, ◌≢◌, ◌+◌, ◌-◌, ◌<◌, ◌≤◌, List, length, Some, slice_get}
use Rattle.bib_spec.specs.Bytes.{file_limit}
use Rattle.bib_spec.specs.Text.{Text}
use Rattle.bib_spec.specs.Reading.{HasReading}
use Rattle.bib_spec.specs.Texts.{IsOpenable}
use Rattle.bib_spec.specs.Fault.{IsReadFault}
use Rattle.bib_store.specs.Readings.{IsTextFault}
use Rattle.shelf_spec.specs.Numbers.{first_place}
use Rattle.bib_shelf.specs.Joined.{text_of, located_in}

-- file i, which has this text, has a reading, and ends in the shelf within the limit of a file
pub record HasItsPlace (files : List Text) (i : ℕ) (text : Text) : Type 0 where
  pub within : first_place i files + length text ≤ file_limit
  pub reading : HasReading text

-- this holds of each file before file i
abbrev pub HaveTheirPlaces : List Text → ℕ → Type 0
HaveTheirPlaces files i = (j : ℕ) (text : Text) → j < i → slice_get files j ≡ Some text → HasItsPlace files j text

-- the files are accepted together: each has a reading, and their shelf can be opened
pub record AreAccepted (files : List Text) : Type 0 where
  pub each : HaveTheirPlaces files (length files)
  pub opens : IsOpenable (text_of files)

-- Why the files are not accepted together: the number of the fault, its place in a file, and the number of that file. The files
-- are looked at in order. The first that ends past the limit, or has no reading, is at fault. If there is none, a raw text is too
-- long.
pub data RefusesShelf (files : List Text) : ℕ → ℕ → ℕ → Type 0 where
  too_long : (i : ℕ) (text : Text) → slice_get files i ≡ Some text → HaveTheirPlaces files i → file_limit < first_place i files + length text
      → RefusesShelf files 9 (file_limit - first_place i files) i
  no_reading : (i : ℕ) (text : Text) (kind place : ℕ) → slice_get files i ≡ Some text → HaveTheirPlaces files i → first_place i files + length text ≤ file_limit
      → kind ≢ 10 → IsReadFault text kind place → RefusesShelf files kind place i
  text_too_long : (place : ℕ) → HaveTheirPlaces files (length files) → IsTextFault (text_of files) 8 place
      → RefusesShelf files 8 (located_in files place).1 (located_in files place).0
  no_memory : RefusesShelf files 10 0 0
