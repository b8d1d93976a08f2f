use Rattle.std.proofs.Common.{sym, subst}
use Rattle.bib_spec.specs.Text.{Text}
use Rattle.bib_shelf.specs.Joined.{AreJoined, AreOfShelf}
use Rattle.bib_shelf.specs.Faults.{no_memory}
use Rattle.bib_shelf.proofs.Opens.{not_memory}
use Rattle.bib_shelf.proofs.opening.first_fault.Goals as goal

pub returns-then-is_memory : goal.returns-then-is_memory
returns-then-is_memory c = λ files are fault. no_memory

pub read_each-requires : goal.read_each-requires
read_each-requires c =
    subst (λ (t : Text). AreOfShelf t c.args.spans.now) (sym c.as_slice.ensures)
    (c.requires (not_memory c.args.unopened.fault.kind c.is_memory.result c.is_memory.ensures c.if-is_memory.false))

pub returns-in-Ok : goal.returns-in-Ok
returns-in-Ok c = λ files are fault.
    let joined = are (not_memory c.args.unopened.fault.kind c.is_memory.result c.is_memory.ensures c.if-is_memory.false) in
    c.located.ensures files joined.spans
    (c.in-Ok.ensures.read files (subst (λ (t : Text). AreJoined files (record { text = t; spans = c.args.spans.now })) (sym c.as_slice.ensures) joined)) fault

pub returns : goal.returns
returns c = λ files are fault.
    let joined = are (not_memory c.args.unopened.fault.kind c.is_memory.result c.is_memory.ensures c.if-is_memory.false) in
    c.in-Err.ensures.fault files (subst (λ (t : Text). AreJoined files (record { text = t; spans = c.args.spans.now })) (sym c.as_slice.ensures) joined)
