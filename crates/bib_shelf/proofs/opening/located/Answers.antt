use Rattle.std.proofs.Common.{ℕ, sym, subst}
use Rattle.bib_shelf.specs.Faults.{RefusesShelf, no_memory}
use Rattle.bib_shelf.proofs.Opens.{not_memory, text_fault}
use Rattle.bib_shelf.proofs.opening.located.Goals as goal

pub returns-then-is_memory : goal.returns-then-is_memory
returns-then-is_memory c = λ files are all fault. no_memory

pub returns : goal.returns
returns c = λ files are all fault.
    subst (λ (p : ℕ × ℕ). RefusesShelf files c.args.fault.kind p.1 p.0) (sym (c.locate-file.ensures files are))
    (text_fault files c.args.fault.kind c.args.fault.place all (not_memory c.args.fault.kind c.is_memory.result c.is_memory.ensures c.if-is_memory.false) fault)
