use Rattle.bibkeep.specs.Ending.{EndsFor}
use Rattle.bibkeep.proofs.run_merging.Goals as goal

pub returns : goal.returns
returns c = EndsFor.merged c.requires.alone c.requires.named c.three_files-files.result c.answer_three.ensures
