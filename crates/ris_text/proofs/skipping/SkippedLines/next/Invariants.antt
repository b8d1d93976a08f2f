use Rattle.ris_text.proofs.Words.{◌≡◌, length}
use Rattle.std.specs.Prelude.{◌-◌}
use Rattle.ris_text.specs.Skipping.{skips_at, IsNumbered}
use Rattle.ris_text.proofs.skipping.SkippedLines.next.Given as goal

abbrev pub invariant-line : goal.invariant-line
invariant-line l = record {
  same : skips_at l.file l.inside l.place ≡ l.fn.self;
  numbered : IsNumbered l.file l.place l.number;
}

abbrev pub decreases-line : goal.decreases-line
decreases-line l = length l.file - l.place
