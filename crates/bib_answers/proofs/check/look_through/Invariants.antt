use Rattle.bib_answers.specs.LookedThrough.{IsFoundBefore}
use Rattle.bib_answers.proofs.check.look_through.Given as goal

abbrev pub invariant-items : goal.invariant-items
invariant-items l = IsFoundBefore l.db l.n l.found
