use Rattle.bib_edit.proofs.Words.{AddMany, ArePiecesOf, IsAllowedEdit, IsRefusal, many}
use Rattle.bib_edit.proofs.Results.{if_ok-as, on_ok-as, if_err-as}
use Rattle.bib_edit.proofs.add_many.add_many.Goals as goal

pub returns-clause-pieces : goal.returns-clause-pieces
returns-clause-pieces g c =
    if_ok-as _ (ArePiecesOf c.args.db.now (AddMany c.args.entries.now)) (λ ps h. h (AddMany c.args.entries.now) (many c.args.entries.now c.item_count.result c.item_count.ensures)) c.add.result c.add.ensures.pieces

pub returns-clause-allowed : goal.returns-clause-allowed
returns-clause-allowed g c =
    on_ok-as _ (IsAllowedEdit c.args.db.now (AddMany c.args.entries.now)) (λ h. h (AddMany c.args.entries.now) (many c.args.entries.now c.item_count.result c.item_count.ensures)) c.add.result c.add.ensures.allowed

pub returns-clause-refused : goal.returns-clause-refused
returns-clause-refused g c =
    if_err-as _ (IsRefusal c.args.db.now (AddMany c.args.entries.now)) (λ fault h. h (AddMany c.args.entries.now) (many c.args.entries.now c.item_count.result c.item_count.ensures)) c.add.result c.add.ensures.refused
