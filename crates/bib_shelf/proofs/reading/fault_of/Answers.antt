use Rattle.std.proofs.Common.{sym, subst}
use Rattle.bib_shelf.specs.declared.fault.ShelfFault.{ShelfFault}
use Rattle.bib_shelf.specs.Faults.{RefusesShelf, no_memory, no_reading}
use Rattle.bib_shelf.proofs.Opens.{not_memory}
use Rattle.bib_shelf.proofs.reading.fault_of.Goals as goal

pub returns-then-is_memory : goal.returns-then-is_memory
returns-then-is_memory c = λ files text at before short fault. no_memory

pub returns : goal.returns
returns c = λ files text at before short fault.
    subst (λ (f : ShelfFault). RefusesShelf files f.kind f.place f.file) (sym c.in_file.ensures)
    (no_reading c.args.i text c.args.fault.kind c.args.fault.place at before short (not_memory c.args.fault.kind c.is_memory.result c.is_memory.ensures c.if-is_memory.false) fault)
