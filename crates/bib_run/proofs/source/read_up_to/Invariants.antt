use Rattle.bib_run.proofs.Words.{◌+◌, ◌-◌, tap_inner, has_failed, interruptions}
use Rattle.std.proofs.Common.{vec_len}
use Rattle.bib_run.proofs.Progress.{HasRead}
use Rattle.bib_run.proofs.source.read_up_to.Given as goal

abbrev pub invariant-fill : goal.invariant-fill
invariant-fill g l = HasRead l.most (g.R.Read.remaining (tap_inner l.fn.source)) (g.R.Read.remaining (tap_inner l.source)) l.bytes.items (has_failed l.fn.source) (has_failed l.source)

abbrev pub decreases-fill : goal.decreases-fill
decreases-fill g l = (l.most - vec_len l.bytes) + (101 - interruptions l.source)
