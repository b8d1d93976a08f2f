use Rattle.std.proofs.Common.{map}
use Rattle.bib_uses.specs.Seen.{use_seen}
use Rattle.bib_uses.proofs.UsesRead.{HaveAdded}
use Rattle.bib_uses.proofs.uses.add_in_field.Given as goal

abbrev pub invariant-parts : goal.invariant-parts
invariant-parts l = HaveAdded l.field.name.now l.field.value.now (map use_seen l.initial.uses.items) l.n (map use_seen l.uses.items)
