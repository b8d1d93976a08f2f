use Rattle.bib_uses.specs.Lost.{is_lost}
use Rattle.bib_uses.proofs.TimesTold.{told-next, told-all}
use Rattle.bib_uses.proofs.losing.lost_names.Goals as goal

pub uses-preserved : goal.uses-preserved
uses-preserved c = (
  c.in_ok-add_if.ensures.told,
  λ ro rt rm key source other are.
      told-next (is_lost ro rt rm key c.args.n) c.args.uses.now c.uses.k _ c.uses.names.items c.add_if.new.names.items c.is_lost-lost.result c.uses-test.true (c.is_lost-lost.ensures ro rt rm key source other are)
      (c.uses.invariant.1 ro rt rm key source other are) c.in_ok-add_if.ensures.names,
)

pub returns : goal.returns
returns c ro rt rm key source other are = told-all (is_lost ro rt rm key c.args.n) c.args.uses.now c.uses.k c.uses.names.items c.uses-test.false (c.uses.invariant.1 ro rt rm key source other are)
