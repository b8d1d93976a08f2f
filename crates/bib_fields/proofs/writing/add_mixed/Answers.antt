use Rattle.bib_fields.proofs.ItemsRead.{tree-in}
use Rattle.bib_fields.proofs.writing.add_mixed.Goals as goal

pub returns : goal.returns
returns g c ro reads_o rt reads_t io it mo mt at_o at_t =
    c.in_ok-add_views.ensures io it mo mt (tree-in c.args.ours.now ro c.args.o io reads_o at_o) (tree-in c.args.theirs.now rt c.args.t it reads_t at_t) (c.item.ensures ro reads_o io at_o) (c.item-2.ensures rt reads_t it at_t)
