use Rattle.std.proofs.Common.{◌≡◌, ◌∙◌, sym, ◌++◌, get_or, ap, subst}
use Rattle.bib_spec.specs.Text.{Text}
use Rattle.bib_places.proofs.Lists.{gathered-more, gathered-all}
use Rattle.merge_run.specs.Lines.{lost_line}
use Rattle.merge_run.proofs.lines.add_all_lost.Goals as goal

pub lost-preserved : goal.lost-preserved
lost-preserved c =
    let key = c.as_slice.result.now in
    let is : key ≡ get_or c.args.lost.now c.lost.k key = subst (λ (t : Text). t ≡ get_or c.args.lost.now c.lost.k t) (sym c.as_slice.ensures) c.index-lost-k.is in
    gathered-more lost_line c.args.out.now.items c.args.lost.now c.lost.k key c.lost.out.items c.add_lost.new.out.items c.lost-test.true
    (c.in_ok-add_lost.ensures ∙ ap (λ (t : Text). c.lost.out.items ++ lost_line t) is)
    c.lost.invariant

pub returns : goal.returns
returns c = gathered-all lost_line c.args.out.now.items c.args.lost.now c.lost.k c.lost.out.items c.lost-test.false c.lost.invariant
