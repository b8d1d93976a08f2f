use Rattle.bib_fields.proofs.ItemsRead.{tree-in, parts-with}
use Rattle.bib_fields.proofs.telling.parts_in_conflict.Goals as goal

pub returns : goal.returns
returns g c rb reads_b ro reads_o rt reads_t ib io it at_b at_o at_t =
    parts-with _ _ _ _ _ _ ib.tree io.tree it.tree _ (c.macros_at.ensures rb reads_b) (c.macros_at-2.ensures ro reads_o) (c.macros_at-3.ensures rt reads_t)
    (c.in_ok-parts.ensures ib io it (tree-in c.args.base.now rb c.args.b ib reads_b at_b) (tree-in c.args.ours.now ro c.args.o io reads_o at_o) (tree-in c.args.theirs.now rt c.args.t it reads_t at_t)
    (c.item.ensures rb reads_b ib at_b) (c.item-2.ensures ro reads_o io at_o) (c.item-3.ensures rt reads_t it at_t))
