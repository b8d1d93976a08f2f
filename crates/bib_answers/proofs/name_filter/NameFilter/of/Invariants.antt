use Rattle.bib_answers.proofs.Words.{length}
use Rattle.bib_answers.specs.Recurring.{names_of}
use Rattle.bib_answers.proofs.Recurrences.{AreCounting}
use Rattle.bib_answers.proofs.name_filter.NameFilter.of.Given as goal

abbrev pub invariant-fields : goal.invariant-fields
invariant-fields l = AreCounting (names_of l.initial.rest) l.count l.counts.items (names_of l.rest)

abbrev pub decreases-fields : goal.decreases-fields
decreases-fields l = length l.rest
