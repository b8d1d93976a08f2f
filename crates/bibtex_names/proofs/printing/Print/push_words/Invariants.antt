use Rattle.bib_names.proofs.Words.{◌≡◌, drop}
use Rattle.bibtex_names.specs.Printing.{with_words}
use Rattle.bibtex_names.proofs.printing.Print.push_words.Given as goal

abbrev pub invariant-loop-n : goal.invariant-loop-n
invariant-loop-n l = with_words l.letters l.self (drop l.n l.words) ≡ with_words l.letters l.initial.self l.words
