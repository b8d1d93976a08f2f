use Rattle.std.proofs.Common.{◌≡◌}
use Rattle.std.specs.List.{flat_map, range_with_len}
use Rattle.bib_store.specs.Readings.{OfReading}
use Rattle.bib_uses.specs.Lost.{lost_at}
use Rattle.bib_uses.proofs.losing.lost_uses.Given as goal

abbrev pub invariant-items : goal.invariant-items
invariant-items g l = OfReading l.ours (λ ro. OfReading l.theirs (λ rt. OfReading l.merged (λ rm. l.lost.items ≡ flat_map (lost_at ro rt rm) (range_with_len 0 l.n))))
