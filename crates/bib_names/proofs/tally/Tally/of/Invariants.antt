use Rattle.bib_names.proofs.Words.{◌≡◌, ℕ, List, take, count_of, times}
use Rattle.bib_names.proofs.tally.Tally.of.Given as goal

abbrev pub invariant-loop-text : goal.invariant-loop-text
invariant-loop-text l = (text : List ℕ) → times l.tally.counts text ≡ count_of text (take l.text-index l.texts)
