use Rattle.std.proofs.Common.{length, ◌-◌}
use Rattle.bib_streams.specs.Shown.{IsPlainFront}
use Rattle.bib_streams.proofs.shown.plain_len.Given as goal

abbrev pub invariant-runs : goal.invariant-runs
invariant-runs l = IsPlainFront l.text l.len

abbrev pub decreases-runs : goal.decreases-runs
decreases-runs l = length l.text - l.len

abbrev pub invariant-plain : goal.invariant-plain
invariant-plain l = IsPlainFront l.text l.len

abbrev pub decreases-plain : goal.decreases-plain
decreases-plain l = length l.text - l.len
