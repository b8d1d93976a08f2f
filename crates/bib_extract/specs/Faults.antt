-- The numbers of faults, and why there is no extract.
use Rattle.std.specs.Prelude.{ℕ, ◌≡◌, ◌<◌, List, [], ◌∷◌, Option, Some, None, length, ⊤}
use Rattle.bib_spec.specs.Bytes.{file_limit}
use Rattle.bib_spec.specs.Text.{Text}
use Rattle.bib_spec.specs.Reading.{bytes_of}
use Rattle.bib_spec.specs.Records.{entries_of, unknown}
use Rattle.bib_store.specs.Readings.{OfReading}
use Rattle.extract_spec.specs.Extract.{extract_of}
use Rattle.bib_extract.specs.declared.fault.ExtractFault.{ExtractFault}
use Rattle.bib_extract.specs.declared.fault.ExtractFault.TheVariants.{FileTooLong, Memory, NoSuchEntry}

-- the number of a fault in the manual
abbrev pub fault_number : ExtractFault → ℕ
fault_number FileTooLong = 9
fault_number Memory = 10
fault_number (NoSuchEntry position) = 11

-- the position of the key that finds nothing
abbrev pub fault_position : ExtractFault → Option ℕ
fault_position FileTooLong = None
fault_position Memory = None
fault_position (NoSuchEntry position) = Some position

-- the first of the list, if there is one
abbrev pub first_of : List ℕ → Option ℕ
first_of [] = None
first_of (n ∷ ns) = Some n

-- Why a file has no extract for these keys: the key at this position is the first that finds no entry; or each key finds one, and the
-- extract would be longer than a file may be.
abbrev pub RefusesExtract : Text → List Text → ExtractFault → Type 0
RefusesExtract file keys (NoSuchEntry position) = OfReading file (λ r. first_of (unknown (entries_of r) keys) ≡ Some position)
RefusesExtract file keys FileTooLong = OfReading file (λ r. (unknown (entries_of r) keys ≡ []) × (file_limit < length (bytes_of (extract_of r keys))))
RefusesExtract file keys Memory = ⊤
