use Rattle.bibkeep.specs.Ending.{EndsFor}
use Rattle.bibkeep.proofs.run_together.Goals as goal

pub returns : goal.returns
returns c = EndsFor.together c.requires.others c.joined_files-files.result c.answer_joined.ensures
