use Rattle.insert_spec.proofs.PutFiles.{insertion-reads, insertion-opens}
use Rattle.insert_spec.proofs.insertions.an_insertion_makes_a_file_that_opens.Goals as goal

pub returns-clause-reads : goal.returns-clause-reads
returns-clause-reads c = insertion-reads

pub returns-clause-opens : goal.returns-clause-opens
returns-clause-opens c = insertion-opens
