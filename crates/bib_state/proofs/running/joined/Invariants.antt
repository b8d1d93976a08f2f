use Rattle.std.proofs.Common.{take}
use Rattle.bib_shelf.specs.Joined.{AreJoined}
use Rattle.bib_state.proofs.running.joined.Given as goal

abbrev pub invariant-files : goal.invariant-files
invariant-files l = AreJoined (take l.file-index l.files) l.joined
