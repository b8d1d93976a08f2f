use Rattle.bib_steps.proofs.Words.{◌≡◌, ◌++◌, map, take, drop, moved}
use Rattle.bib_steps.proofs.ends.move_places.Given as goal

abbrev pub invariant-all : goal.invariant-all
invariant-all l = l.places ≡ map (moved l.old l.new) (take l.i l.initial.places) ++ drop l.i l.initial.places
