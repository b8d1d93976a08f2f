use Rattle.std.proofs.Common.{◌∙◌, ◌<◌, subst}
use Rattle.bib_extract.proofs.WrittenItems.{slice_get-within, got, written-more, written-all}
use Rattle.bib_extract.proofs.writing.marked_bytes.Goals as goal

pub items-preserved : goal.items-preserved
items-preserved g c r reads =
    let it = slice_get-within r.items c.items.n (subst (λ k. c.items.n < k) (c.requires r reads) c.items-test.true) in
    written-more c.args.marks.now r.items c.items.n _ it.0 c.items.out.items c.add_marked.new.out.items (got c.args.marks.now c.items.n _ c.items-test.true) it.1
    (c.in_ok-add_marked.ensures r reads it.0 it.1) (c.items.invariant r reads)

pub returns : goal.returns
returns g c r reads = c.from_vec.ensures ∙ written-all c.args.marks.now r.items c.items.n c.items.out.items c.items-test.false (c.items.invariant r reads)
