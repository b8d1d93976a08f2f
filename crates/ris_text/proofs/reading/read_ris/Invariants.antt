use Rattle.ris_text.proofs.Words.{IsLeft}
use Rattle.ris_text.proofs.reading.read_ris.Given as goal

abbrev pub invariant-records : goal.invariant-records
invariant-records l = IsLeft l.bytes l.records.items l.rest

abbrev pub decreases-records : goal.decreases-records
decreases-records l = l.rest.lines
