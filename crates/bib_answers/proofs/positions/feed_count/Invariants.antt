use Rattle.bib_answers.proofs.Words.{◌≡◌, ◌+◌, length, is_line_feed}
use Rattle.std.specs.List.{count_by}
use Rattle.bib_answers.proofs.positions.feed_count.Given as goal

abbrev pub invariant-runs : goal.invariant-runs
invariant-runs l = l.count + count_by is_line_feed l.rest ≡ count_by is_line_feed l.bytes

abbrev pub decreases-runs : goal.decreases-runs
decreases-runs l = length l.rest
