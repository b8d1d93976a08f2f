use Rattle.bib_answers.proofs.NameLines.{given_name, name_fault}
use Rattle.bib_answers.proofs.names.parts_in.Goals as goal

pub returns-clause-parts : goal.returns-clause-parts
returns-clause-parts c = given_name c.split_name.result c.args.name.now c.split_name.ensures.parts c.split_name.ensures.balanced

pub returns-clause-fault : goal.returns-clause-fault
returns-clause-fault c =
    name_fault c.split_name.result c.args.name.now c.split_name.ensures.memory c.split_name.ensures.unbalanced.1 c.split_name.ensures.commas.1
