use Rattle.std.proofs.Common.{◌≡◌, drop}
use Rattle.bib_c.specs.Words.{words_of}
use Rattle.bib_c.proofs.FlatWords.{found_before}
use Rattle.bib_c.proofs.words.words_of.Given as goal

abbrev pub invariant-word : goal.invariant-word
invariant-word l = words_of l.text l.lens ≡ found_before l.words.items (words_of l.rest (drop l.len-index l.lens))
