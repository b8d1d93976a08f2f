-- What is wrong where a text goes wrong, by the bytes that could be there instead. (dialect)
use Rattle.std.specs.Prelude.{ℕ, ◌≡◌, ◌+◌, ◌<◌, ◌≤◌, ◌++◌, ◌∷◌, [], length, take}
use Rattle.bib_spec.specs.Bytes.{quote, comma, digit_one, equals_sign, letter_x, name_limit, file_limit}
use Rattle.bib_spec.specs.Text.{Text}
use Rattle.bib_spec.specs.Reading.{HasReading, HasReadingWithin, IsViable, FailsAt}

-- a kind of text, given the largest number of bytes in a name or key
abbrev pub TextKind : Type 1
TextKind = ℕ → Text → Type 0

-- such a text can continue with this byte at the place
abbrev pub MayStand : TextKind → Text → ℕ → ℕ → Type 0
MayStand IsSuch t place byte = IsViable (IsSuch name_limit) (take place t ++ byte ∷ [])

-- such a text could continue with the byte at the place if names and keys could be one byte longer
abbrev pub IsOneTooLong : TextKind → Text → ℕ → Type 0
IsOneTooLong IsSuch t place = IsViable (IsSuch (name_limit + 1)) (take (place + 1) t)

-- the faults of reading, in the order of their numbers
pub data ReadingFault : Type 0 where
  Unended ExpectedName ExpectedEquals ExpectedCommaOrClose ExpectedValue UnbalancedBrace KeyTooLong : ReadingFault

-- the number of a fault
abbrev pub fault_number : ReadingFault → ℕ
fault_number Unended = 1
fault_number ExpectedName = 2
fault_number ExpectedEquals = 3
fault_number ExpectedCommaOrClose = 4
fault_number ExpectedValue = 5
fault_number UnbalancedBrace = 6
fault_number KeyTooLong = 7

-- What is wrong at the place where the text goes wrong. The conditions exclude one another.
pub data IsFaultAt (IsSuch : TextKind) (t : Text) (place : ℕ) : ReadingFault → Type 0 where
  -- the text ends
  unended : place ≡ length t → IsFaultAt IsSuch t place Unended
  -- the byte would make a name or key too long
  too_long : place < length t → IsOneTooLong IsSuch t place → IsFaultAt IsSuch t place KeyTooLong
  -- a name could begin here, but neither a number nor a quoted part, and no equals sign could stand here
  name : place < length t → (IsOneTooLong IsSuch t place → ⊥) → (MayStand IsSuch t place quote → ⊥) → (MayStand IsSuch t place equals_sign → ⊥)
      → MayStand IsSuch t place letter_x → (MayStand IsSuch t place digit_one → ⊥) → IsFaultAt IsSuch t place ExpectedName
  -- an equals sign could stand here, but no quoted part
  equals : place < length t → (IsOneTooLong IsSuch t place → ⊥) → (MayStand IsSuch t place quote → ⊥) → MayStand IsSuch t place equals_sign
      → IsFaultAt IsSuch t place ExpectedEquals
  -- a quoted part could begin here, but no comma could stand here
  value : place < length t → (IsOneTooLong IsSuch t place → ⊥) → MayStand IsSuch t place quote → (MayStand IsSuch t place comma → ⊥)
      → IsFaultAt IsSuch t place ExpectedValue
  -- the text is inside a quoted part: it could end here, or continue with a comma
  brace : place < length t → (IsOneTooLong IsSuch t place → ⊥) → MayStand IsSuch t place quote → MayStand IsSuch t place comma
      → IsFaultAt IsSuch t place UnbalancedBrace
  -- neither a quoted part nor an equals sign could stand here; a letter could stand here only if a digit could, too
  comma_or_close : place < length t → (IsOneTooLong IsSuch t place → ⊥) → (MayStand IsSuch t place quote → ⊥) → (MayStand IsSuch t place equals_sign → ⊥)
      → (MayStand IsSuch t place letter_x → MayStand IsSuch t place digit_one) → IsFaultAt IsSuch t place ExpectedCommaOrClose

-- Why the bytes are not read as a database, as a number and a place: they are too long, they cannot be taken apart, or memory
-- ran out.
pub data IsReadFault (bytes : Text) : ℕ → ℕ → Type 0 where
  too_long : file_limit < length bytes → IsReadFault bytes 9 file_limit
  no_reading : (fault : ReadingFault) → (place : ℕ) → length bytes ≤ file_limit → FailsAt HasReading bytes place
      → IsFaultAt HasReadingWithin bytes place fault → IsReadFault bytes (fault_number fault) place
  no_memory : length bytes ≤ file_limit → IsReadFault bytes 10 0
