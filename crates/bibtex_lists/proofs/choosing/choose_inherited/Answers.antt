use Rattle.std.proofs.Common.{arith}
use Rattle.bib_spec.specs.Records.{entries_of}
use Rattle.bibtex_lists.proofs.Chosen.{chosen_start, chosen_more, chosen_all}
use Rattle.bibtex_lists.proofs.choosing.choose_inherited.Goals as goal

pub inherit-init : goal.inherit-init
inherit-init g c r reads all is = chosen_start _ (entries_of r) all _ _ is

pub inherit-preserved : goal.inherit-preserved
inherit-preserved g c r reads all is =
    chosen_more _ (entries_of r) all c.inherit.fields.items _ c.in_ok-given.given.items c.args.up.now c.inherit.n-index c.inherit-test.true
    (c.in_ok-given.ensures r reads) c.in_ok-add_missing.ensures (c.inherit.invariant r reads all is)

pub returns : goal.returns
returns g c r reads all is = chosen_all _ (entries_of r) all _ c.args.up.now c.inherit.n-index (let end = c.inherit-test.false in omega (arith, end)) (c.inherit.invariant r reads all is)
