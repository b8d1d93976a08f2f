use Rattle.bib_fields.proofs.ItemsRead.{tree-in, with-macros}
use Rattle.bib_fields.proofs.checking.may_mix.Goals as goal

pub returns : goal.returns
returns g c yes' rb reads_b ro reads_o rt reads_t ib io it at_b at_o at_t =
    with-macros _ _ _ _ _ _ ib.tree io.tree it.tree c.args.mix (c.macros_at.ensures rb reads_b) (c.macros_at-2.ensures ro reads_o) (c.macros_at-3.ensures rt reads_t)
    (c.in_ok-may.ensures yes' ib io it (tree-in c.args.base.now rb c.args.b ib reads_b at_b) (tree-in c.args.ours.now ro c.args.o io reads_o at_o) (tree-in c.args.theirs.now rt c.args.t it reads_t at_t)
    (c.item.ensures rb reads_b ib at_b) (c.item-2.ensures ro reads_o io at_o) (c.item-3.ensures rt reads_t it at_t))
