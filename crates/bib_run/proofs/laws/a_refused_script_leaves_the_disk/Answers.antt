use Rattle.bib_run.proofs.StoredRuns.{a-refused-script-leaves-the-disk}
use Rattle.bib_run.proofs.laws.a_refused_script_leaves_the_disk.Goals as goal

pub returns : goal.returns
returns c = a-refused-script-leaves-the-disk
