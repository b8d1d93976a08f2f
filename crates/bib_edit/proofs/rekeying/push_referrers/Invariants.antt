use Rattle.bib_edit.proofs.Words.{ℕ, ◌≤◌, OfReading, AreQuiet, HavePieces}
use Rattle.bib_edit.proofs.EntryPieces.{IsReached}
use Rattle.bib_edit.proofs.rekeying.push_referrers.Given as goal

abbrev pub invariant-referrers : goal.invariant-referrers
invariant-referrers g l =
    OfReading l.db (λ r. (a : ℕ) → a ≤ l.some.end → AreQuiet l.new r l.some.key.now a l.some.end → HavePieces l.new r l.some.key.now l.some.from a l.initial.pieces.items → IsReached l.new r l.some.key.now l.k l.some.end l.pieces.items)
