use Rattle.std.proofs.Common.{◌≡◌, ℕ, List, take}
use Rattle.bib_places.specs.Tallies.{count_of, times}
use Rattle.bib_places.proofs.tally.Tally.of.Given as goal

abbrev pub invariant-loop-text : goal.invariant-loop-text
invariant-loop-text l = (text : List ℕ) → times l.tally.counts text ≡ count_of text (take l.text-index l.texts)
