-- What the reader says of a text, as the first fault, or as a reading.
use Rattle.std.proofs.Common.{◌≡◌, ℕ, ◌+◌, ◌-◌, Bool, true, false, List, length, Result, Ok, Err, refl, arith}
use Rattle.std.proofs.lemmas.Bool.{false≢true}
use Rattle.bib_spec.specs.Bytes.{name_limit}
use Rattle.bib_spec.specs.Text.{Text}
use Rattle.bib_spec.specs.Reading.{HasReading}
use Rattle.bib_scan.specs.LeftToRight.{Halt, read_all_commands}
use Rattle.bib_scan.specs.declared.layout.Span.{Span}
use Rattle.bib_scan.proofs.ReadingLaws.{reading_of}
use Rattle.bib_scan.proofs.FailsAtLaws.{failing}
use Rattle.bib_scan.proofs.KindLaws.{file_fault}
use Rattle.bib_faults.specs.GoingOn.{IsFirstFault}

-- where the reader stops, the first fault is
abbrev pub stops : (at : ℕ) (t : Text) (h : Halt) → read_all_commands name_limit t ≡ Err h → IsFirstFault at t (record { kind = h.fault; place = at + (length t - length h.rest) })
stops at t h is = record { within = length t - length h.rest; fails = failing name_limit (omega arith) t h is; kind = file_fault t h is; place = refl }

-- the reader takes the text
abbrev pub is_taken : Result (List Span) Halt → Bool
is_taken (Ok spans) = true
is_taken (Err h) = false

pub reads : (t : Text) → is_taken (read_all_commands name_limit t) ≡ true → HasReading t
reads t taken = at (read_all_commands name_limit t) refl taken
  where
    at : (m : Result (List Span) Halt) → read_all_commands name_limit t ≡ m → is_taken m ≡ true → HasReading t
    at (Ok spans) is yes_it_is = let r = reading_of name_limit t spans is in (r.0, r.1)
    at (Err h) is none = absurd (false≢true none)
