use Rattle.bib_items.proofs.Words.{◌≡◌, drop, folded, mixed_all, name_mark}
use Rattle.bib_items.proofs.marking.name_mark.Given as goal

abbrev pub invariant-bytes : goal.invariant-bytes
invariant-bytes l = mixed_all l.mark (folded (drop l.n l.name)) ≡ name_mark l.name
