use Rattle.bib_run.proofs.Words.{length, ◌-◌, ◌+◌, tap_inner, has_failed, interruptions}
use Rattle.bib_run.proofs.Progress.{HasWritten}
use Rattle.bib_run.proofs.sink.write_whole.Given as goal

abbrev pub invariant-drain : goal.invariant-drain
invariant-drain g l = HasWritten (g.W.Write.contents (tap_inner l.fn.sink)) (g.W.Write.contents (tap_inner l.sink)) l.bytes l.done (has_failed l.fn.sink) (has_failed l.sink)

abbrev pub decreases-drain : goal.decreases-drain
decreases-drain g l = (length l.bytes - l.done) + (101 - interruptions l.sink)
