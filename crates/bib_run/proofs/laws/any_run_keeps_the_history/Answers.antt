use Rattle.bib_run.proofs.AnyRun.{any-run-keeps-the-history, a-printed-run-leaves-the-disk}
use Rattle.bib_run.proofs.laws.any_run_keeps_the_history.Goals as goal

pub returns : goal.returns
returns c = record { any = any-run-keeps-the-history; printed = a-printed-run-leaves-the-disk }
