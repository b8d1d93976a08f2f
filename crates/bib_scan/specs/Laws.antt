-- Laws of reading.
use Rattle.std.specs.Prelude.{ℕ, ◌≡◌, ◌↔◌, ◌⊎◌, ◌<◌, false, [], ◌∷◌, ◌++◌, length, take, drop}
use Rattle.bib_spec.specs.Bytes.{at_sign, name_limit}
use Rattle.bib_spec.specs.Text.{Text}
use Rattle.bib_spec.specs.Clean.{begins_command, IsClean}
use Rattle.bib_spec.specs.Reading.{Reading, Reads, FailsAt}
use Rattle.bib_spec.specs.Fault.{TextKind, ReadingFault, Unended, IsFaultAt}

-- no file has two readings
abbrev pub OneReading : Type 0
OneReading = (file : Text) (db other : Reading) → Reads file db → Reads file other → db ≡ other

-- no command begins in the text, read with an at-sign after it
abbrev pub IsCleanBeforeSign : Text → Type 0
IsCleanBeforeSign t = (p : ℕ) → p < length t → begins_command (drop p (t ++ at_sign ∷ [])) ≡ false

-- whether a text is clean does not depend on what follows it: the end of the file, or the next item
abbrev pub CleanBeforeSign : Type 0
CleanBeforeSign = (t : Text) → IsClean t ↔ IsCleanBeforeSign t

-- each text is of this kind, or goes wrong at a place
abbrev pub IsSuchOrFails : (Text → Type 0) → Type 0
IsSuchOrFails IsSuch = (t : Text) → IsSuch t ⊎ ((place : ℕ) × FailsAt IsSuch t place)

-- a text goes wrong at one place at most
abbrev pub OnePlace : (Text → Type 0) → Type 0
OnePlace IsSuch = (t : Text) (place other : ℕ) → FailsAt IsSuch t place → FailsAt IsSuch t other → place ≡ other

-- at the place where a text goes wrong, exactly one fault applies
abbrev pub OneFault : TextKind → Type 0
OneFault IsSuch =
    (t : Text) (place : ℕ) → FailsAt (IsSuch name_limit) t place
    → (fault : ReadingFault) × IsFaultAt IsSuch t place fault × ((other : ReadingFault) → IsFaultAt IsSuch t place other → other ≡ fault)

-- a text of this kind, cut anywhere, is again of this kind or has ended too early
abbrev pub CutEnds : TextKind → Type 0
CutEnds IsSuch =
    (t : Text) (n : ℕ) → IsSuch name_limit t
    → IsSuch name_limit (take n t) ⊎ (FailsAt (IsSuch name_limit) (take n t) (length (take n t)) × IsFaultAt IsSuch (take n t) (length (take n t)) Unended)

-- one reading after the other: the front of the first, and the items of both
abbrev pub both : Reading → Reading → Reading
both db next = record { front = db.front; items = db.items ++ next.items }

-- the text of a file, and after it the text of a file without a front, together have the items of both
abbrev pub JoinedReadings : Type 0
JoinedReadings = (file more : Text) (db next : Reading) → Reads file db → Reads more next → next.front ≡ [] → Reads (file ++ more) (both db next)
