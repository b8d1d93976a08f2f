use Rattle.bibkeep.proofs.other_files.with_rest.Goals as goal

pub fill-preserved-in-Ok : goal.fill-preserved-in-Ok
fill-preserved-in-Ok g c = λ files last are. let now = c.fill.invariant files last are in (_, c.in_ok-joined-in-Ok.ensures files now.0 now.1)
