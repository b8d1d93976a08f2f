use Rattle.std.proofs.Common.{◌≡◌, map, take}
use Rattle.bib_shelf.specs.Joined.{files_in}
use Rattle.shelf_run.proofs.linting.files_of.Given as goal

abbrev pub invariant-files : goal.invariant-files
invariant-files l = map (λ file. file.now) l.files.items ≡ take l.i (files_in l.joined.spans l.joined.text)
