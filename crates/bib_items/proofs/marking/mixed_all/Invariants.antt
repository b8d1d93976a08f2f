use Rattle.bib_items.proofs.Words.{◌≡◌, drop, mixed_all}
use Rattle.bib_items.proofs.marking.mixed_all.Given as goal

abbrev pub invariant-bytes : goal.invariant-bytes
invariant-bytes l = mixed_all l.mark (drop l.n l.text) ≡ mixed_all l.initial.mark l.text
