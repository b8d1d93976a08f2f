use Rattle.bib_names.proofs.Words.{◌≡◌, length, initial}
use Rattle.bib_names.specs.Printing.{first_initial}
use Rattle.bib_names.proofs.initial.initial.Given as goal

abbrev pub decreases-loop-character : goal.decreases-loop-character
decreases-loop-character l = length l.chars

abbrev pub invariant-loop-character : goal.invariant-loop-character
invariant-loop-character l = first_initial l.chars ≡ initial l.word
