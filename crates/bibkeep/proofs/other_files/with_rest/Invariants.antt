use Rattle.std.proofs.Common.{◌+◌, ◌-◌, ◌++◌, ◌∷◌, [], List}
use Rattle.bib_spec.specs.Text.{Text}
use Rattle.bib_shelf.specs.Joined.{AreJoined}
use Rattle.bib_taps.specs.Taps.{interruptions}
use Rattle.bibkeep.proofs.other_files.with_rest.Given as goal

abbrev pub invariant-fill : goal.invariant-fill
invariant-fill g l = (files : List Text) (last : Text) → AreJoined (files ++ last ∷ []) l.fn.joined → (now : Text) × AreJoined (files ++ now ∷ []) l.joined

abbrev pub decreases-fill : goal.decreases-fill
decreases-fill g l = l.left + (101 - interruptions l.source)
