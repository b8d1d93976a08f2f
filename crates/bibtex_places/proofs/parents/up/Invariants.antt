use Rattle.bibtex_places.specs.Parents.{parent_in}
use Rattle.bibtex_places.proofs.Runs.{IsWalk}
use Rattle.bibtex_places.proofs.parents.up.Given as goal

abbrev pub invariant-walk : goal.invariant-walk
invariant-walk l = IsWalk (parent_in l.parents) l.i l.run.items l.heir l.counter
