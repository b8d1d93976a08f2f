use Rattle.std.proofs.Common.{◌≡◌}
use Rattle.std.specs.List.{flat_map, range_with_len}
use Rattle.bib_spec.specs.Records.{entries_of}
use Rattle.bib_store.specs.Readings.{OfReading}
use Rattle.merge_spec.specs.Parents.{lost_key}
use Rattle.bib_parents.proofs.losing.lost_keys.Given as goal

abbrev pub invariant-entries : goal.invariant-entries
invariant-entries g l =
    OfReading l.ours (λ ro. OfReading l.theirs (λ rt. OfReading l.merged (λ rm. l.keys.items ≡ flat_map (lost_key (entries_of ro) (entries_of rt) (entries_of rm)) (range_with_len 0 l.n))))
