use Rattle.std.proofs.Common.{[], ◌∷◌, ◌++◌}
use Rattle.bibkeep.proofs.other_files.joined_files.Goals as goal

pub files-init : goal.files-init
files-init c = ([], c.empty-joined.ensures)

pub files-preserved : goal.files-preserved
files-preserved c = let before = c.files.invariant in let next = c.in_ok-joined.ensures before.0 before.1 in (before.0 ++ next.0 ∷ [], next.1)

pub returns : goal.returns
returns c = c.files.invariant
