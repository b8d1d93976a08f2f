use Rattle.ris_format.proofs.Words.{◌≡◌, drop, false}
use Rattle.std.proofs.Common.{map}
use Rattle.ris_format.proofs.WrittenNames.{goes_on}
use Rattle.ris_format.proofs.judging.are_written_names.Given as goal

abbrev pub invariant-loop-name : goal.invariant-loop-name
invariant-loop-name l = goes_on l.is_somebody (map (λ n. n.now) (drop l.name-index l.names)) ≡ goes_on false (map (λ n. n.now) l.names)
