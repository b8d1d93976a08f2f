use Rattle.std.proofs.Common.{◌≡◌, ◌⊎◌, ℕ, List, true, not, length, count_by}
use Rattle.bib_spec.specs.Records.{entries_of}
use Rattle.bib_store.specs.Readings.{OfReading, IsEntryNumber}
use Rattle.extract_spec.specs.Extract.{is_kept_entry}
use Rattle.bib_extract.specs.Marks.{is_marked, StayMarked, AreClosed, AreClosedBut, AreKept}
use Rattle.bib_extract.proofs.entries.mark_line.Given as goal

abbrev pub invariant-line : goal.invariant-line
invariant-line g l =
    IsEntryNumber l.db l.heir
    × (length l.marks ≡ length l.initial.marks)
    × ((is_marked l.marks l.n ≡ true) ⊎ (l.n ≡ l.heir))
    × StayMarked l.initial.marks l.marks
    × OfReading l.db (λ r. AreClosed (entries_of r) l.initial.marks → AreClosedBut (entries_of r) l.marks l.heir)
    × OfReading l.db (λ r. (list : List ℕ) → is_kept_entry (entries_of r) list l.n ≡ true → AreKept (entries_of r) list l.initial.marks → AreKept (entries_of r) list l.marks × (is_kept_entry (entries_of r) list l.heir ≡ true))

abbrev pub decreases-line : goal.decreases-line
decreases-line g l = count_by not l.marks
