use Rattle.bib_answers.proofs.Words.{◌≡◌, drop, folded, hash_from}
use Rattle.bib_answers.specs.Recurring.{hash_of}
use Rattle.bib_answers.proofs.name_filter.hash_of.Given as goal

abbrev pub invariant-bytes : goal.invariant-bytes
invariant-bytes l = hash_from l.hash (folded (drop l.byte-index l.name)) ≡ hash_of l.name
