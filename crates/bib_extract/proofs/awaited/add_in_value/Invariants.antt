use Rattle.bib_extract.proofs.NamesAwaited.{HaveGained}
use Rattle.bib_extract.proofs.awaited.add_in_value.Given as goal

abbrev pub invariant-parts : goal.invariant-parts
invariant-parts l = HaveGained l.value l.initial.names l.n l.names
