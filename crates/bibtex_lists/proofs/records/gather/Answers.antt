use Rattle.std.proofs.Common.{arith}
use Rattle.bib_spec.specs.Records.{entries_of}
use Rattle.bibtex_lists.proofs.Inherited.{nothing_at}
use Rattle.bibtex_lists.proofs.records.gather.Goals as goal

pub gather_entry-requires-clause-number : goal.gather_entry-requires-clause-number
gather_entry-requires-clause-number g c r reads =
    let count = c.entry_count-count.ensures r reads in
    let test = c.if-n-count.false in
    omega (arith, count, test)

pub returns-then-n-count-clause-added : goal.returns-then-n-count-clause-added
returns-then-n-count-clause-added g c r reads =
    let count = c.entry_count-count.ensures r reads in
    let test = c.if-n-count.true in
    nothing_at (entries_of r) c.args.n c.args.fields.now.fields.items (omega (arith, count, test))
