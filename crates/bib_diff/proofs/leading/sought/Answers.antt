use Rattle.bib_diff.proofs.leading.sought.Goals as goal

pub returns-in-Err-clause-refused : goal.returns-in-Err-clause-refused
returns-in-Err-clause-refused c = λ opens opens_too. c.fault_of.ensures c.args.old.now c.args.new.now c.requires opens opens_too
