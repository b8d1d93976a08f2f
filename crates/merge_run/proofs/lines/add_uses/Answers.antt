use Rattle.std.proofs.Common.{◌++◌, ◌∙◌, ap}
use Rattle.bib_uses.specs.declared.losing.LostUse.{LostUse}
use Rattle.bib_places.proofs.Lists.{gathered-more, gathered-all}
use Rattle.merge_run.specs.Lines.{use_line}
use Rattle.merge_run.proofs.lines.add_uses.Goals as goal

pub uses-preserved : goal.uses-preserved
uses-preserved c =
    gathered-more use_line c.args.out.now.items c.args.uses.now c.uses.k c.index-uses-k.result c.uses.out.items c.add_use.new.out.items c.uses-test.true
    (c.in_ok-add_use.ensures ∙ ap (λ (u : LostUse). c.uses.out.items ++ use_line u) c.index-uses-k.is) c.uses.invariant

pub returns : goal.returns
returns c = gathered-all use_line c.args.out.now.items c.args.uses.now c.uses.k c.uses.out.items c.uses-test.false c.uses.invariant
