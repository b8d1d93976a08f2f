use Rattle.bib_edit.proofs.Words.{Bool, drop, OfReading, AllHaveValues, AreAnyLong}
use Rattle.bib_edit.proofs.new_entries.are_any_long.Given as goal

abbrev pub invariant-entries : goal.invariant-entries
invariant-entries g l =
    AllHaveValues (drop l.entry-index l.entries) × OfReading l.db (λ r. (long : Bool) → AreAnyLong long r l.n (drop l.entry-index l.entries) → AreAnyLong long r l.n l.entries)
