use Rattle.bibkeep.specs.Ending.{EndsFor}
use Rattle.bibkeep.proofs.run_between.Goals as goal

pub returns : goal.returns
returns c = EndsFor.compared c.requires.alone c.requires.named c.two_files-sources.result c.answer_between.ensures
