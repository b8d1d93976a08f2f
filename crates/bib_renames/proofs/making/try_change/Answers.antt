use Rattle.bib_renames.proofs.Renamings.{one_more}
use Rattle.bib_renames.proofs.making.try_change.Goals as goal

pub returns-in-Ok : goal.returns-in-Ok
returns-in-Ok g c file has =
    one_more c.args.giver.now.side.now c.args.giver.now.base.now file c.args.change.now c.in_ok-edit.edit c.args.session.now c.edit.new.self
    c.in_ok-edit.ensures (c.is_given.ensures c.if-not-is_given.false) c.in-Ok.ensures.made has
