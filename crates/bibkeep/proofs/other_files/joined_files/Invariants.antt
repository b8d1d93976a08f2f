use Rattle.std.proofs.Common.{List}
use Rattle.bib_spec.specs.Text.{Text}
use Rattle.bib_shelf.specs.Joined.{AreJoined}
use Rattle.bibkeep.proofs.other_files.joined_files.Given as goal

abbrev pub invariant-files : goal.invariant-files
invariant-files l = (files : List Text) × AreJoined files l.joined
