use Rattle.std.proofs.Common.{map, take}
use Rattle.bib_shelf.specs.Joined.{AreJoined}
use Rattle.bib_shelf.proofs.joining.Joined.of.Given as goal

abbrev pub invariant-files : goal.invariant-files
invariant-files l = AreJoined (map (λ file. file.now) (take l.file-index l.files)) l.joined
