use Rattle.std.proofs.Common.{◌≡◌, ◌≤◌, true, drop}
use Rattle.std.specs.List.{flat_map}
use Rattle.bib_spec.specs.Reading.{item_bytes}
use Rattle.bib_store.specs.Readings.{OfReading}
use Rattle.bibtex_spec.specs.Plain.{is_in_last_line}
use Rattle.bibtex_plain.proofs.lines.last_line.Given as goal

abbrev pub invariant-items : goal.invariant-items
invariant-items l = (l.n ≤ l.count) × OfReading l.db (λ r. is_in_last_line (flat_map item_bytes (drop l.n r.items)) ≡ true)

abbrev pub decreases-items : goal.decreases-items
decreases-items l = l.n
