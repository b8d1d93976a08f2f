use Rattle.bib_run.proofs.OneAnswer.{one-answer}
use Rattle.bib_run.proofs.laws.a_command_has_one_answer.Goals as goal

pub returns : goal.returns
returns c = one-answer
