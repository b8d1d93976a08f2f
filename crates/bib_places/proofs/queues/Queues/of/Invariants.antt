use Rattle.std.proofs.Common.{◌≡◌, ◌+◌, ℕ, true, replicate, length}
use Rattle.std.specs.List.{range_with_len}
use Rattle.bib_places.specs.Queues.{AreQueued}
use Rattle.bib_places.proofs.queues.Queues.of.Given as goal

abbrev pub invariant-codes : goal.invariant-codes
invariant-codes l = record {
  left : l.queues.left.items ≡ replicate (length l.codes) true;
  queued : (count : ℕ) × (l.n + count ≡ length l.codes) × AreQueued l.codes l.queues.firsts l.queues.links.items (range_with_len l.n count);
}

abbrev pub decreases-codes : goal.decreases-codes
decreases-codes l = l.n
