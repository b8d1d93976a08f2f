use Rattle.std.proofs.Common.{◌∙◌, refl}
use Rattle.bib_spec.specs.Records.{entries_of}
use Rattle.bib_extract.proofs.MarkedEntries.{marked-none, marked-more, marked-all}
use Rattle.bib_extract.proofs.entries.mark_all.Goals as goal

pub list-init : goal.list-init
list-init g c r reads = marked-none (entries_of r) c.args.list.now c.args.marks.now c.requires.unmarked

pub mark_line-requires-clause-number : goal.mark_line-requires-clause-number
mark_line-requires-clause-number g c r reads = c.requires.within r reads c.list.n-index _ c.list-test.true

pub mark_line-requires-clause-count : goal.mark_line-requires-clause-count
mark_line-requires-clause-count g c r reads = c.list.auto.marks ∙ c.requires.count r reads

pub list-preserved : goal.list-preserved
list-preserved g c r reads =
    marked-more (entries_of r) c.args.list.now c.list.n-index _ c.list.marks c.mark_line.new.marks c.list-test.true refl
    c.mark_line.ensures.marked c.mark_line.ensures.stay (c.mark_line.ensures.closed r reads) (c.mark_line.ensures.kept r reads) (c.list.invariant r reads)

pub returns : goal.returns
returns g c r reads = marked-all (entries_of r) c.args.list.now c.list.n-index c.list.marks c.list-test.false (c.list.invariant r reads)
