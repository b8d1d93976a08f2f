use Rattle.bib_names.proofs.Words.{◌≡◌, drop}
use Rattle.bibtex_names.specs.Printing.{initial}
use Rattle.bibtex_names.proofs.initial.initial.Given as goal

abbrev pub invariant-loop-place : goal.invariant-loop-place
invariant-loop-place l = initial (drop l.place l.word) ≡ initial l.word
