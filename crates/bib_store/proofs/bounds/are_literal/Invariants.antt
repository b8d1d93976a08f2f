use Rattle.bib_store.proofs.Words.{take, OfValue, AreLiteral}
use Rattle.bib_spec.specs.Texts.{parts_of}
use Rattle.bib_store.proofs.bounds.are_literal.Given as goal

abbrev pub invariant-parts : goal.invariant-parts
invariant-parts l = OfValue l.bytes (λ v. AreLiteral (take l.n (parts_of v)))
