use Rattle.bibkeep.proofs.other_files.with_file.Goals as goal

pub returns-in-Ok : goal.returns-in-Ok
returns-in-Ok c = λ files are. c.in-Ok.ensures files _ (c.in_ok-joined.ensures files are)
