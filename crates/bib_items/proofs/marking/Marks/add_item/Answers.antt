use Rattle.bib_items.proofs.Words.{on_ok_weaker}
use Rattle.bib_items.proofs.PartMarks.{item-marked}
use Rattle.bib_items.proofs.marking.Marks.add_item.Goals as goal

pub returns-clause-added : goal.returns-clause-added
returns-clause-added c =
    on_ok_weaker c.add_fields.result (item-marked c.add_fields.new.self c.args.body.now _ c.of.result c.fields.result c.of.ensures.item c.fields.ensures.fields) c.add_fields.ensures.added
