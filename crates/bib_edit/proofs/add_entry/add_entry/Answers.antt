use Rattle.bib_edit.proofs.Words.{sym, subst, AddEntry, ArePiecesOf, IsAllowedEdit, IsRefusal, Adds, one}
use Rattle.bib_edit.proofs.Results.{if_ok-as, on_ok-as, if_err-as}
use Rattle.bib_edit.proofs.add_entry.add_entry.Goals as goal

pub returns-clause-pieces : goal.returns-clause-pieces
returns-clause-pieces g c =
    let adds : Adds c.args.db.now (AddEntry c.args.position c.args.entry.now) c.args.position c.from_ref.result.now = subst (Adds c.args.db.now (AddEntry c.args.position c.args.entry.now) c.args.position) (sym c.from_ref.ensures.value) (one c.args.position c.args.entry.now) in
    if_ok-as _ (ArePiecesOf c.args.db.now (AddEntry c.args.position c.args.entry.now)) (λ ps h. h (AddEntry c.args.position c.args.entry.now) adds) c.add.result c.add.ensures.pieces

pub returns-clause-allowed : goal.returns-clause-allowed
returns-clause-allowed g c =
    let adds : Adds c.args.db.now (AddEntry c.args.position c.args.entry.now) c.args.position c.from_ref.result.now = subst (Adds c.args.db.now (AddEntry c.args.position c.args.entry.now) c.args.position) (sym c.from_ref.ensures.value) (one c.args.position c.args.entry.now) in
    on_ok-as _ (IsAllowedEdit c.args.db.now (AddEntry c.args.position c.args.entry.now)) (λ h. h (AddEntry c.args.position c.args.entry.now) adds) c.add.result c.add.ensures.allowed

pub returns-clause-refused : goal.returns-clause-refused
returns-clause-refused g c =
    let adds : Adds c.args.db.now (AddEntry c.args.position c.args.entry.now) c.args.position c.from_ref.result.now = subst (Adds c.args.db.now (AddEntry c.args.position c.args.entry.now) c.args.position) (sym c.from_ref.ensures.value) (one c.args.position c.args.entry.now) in
    if_err-as _ (IsRefusal c.args.db.now (AddEntry c.args.position c.args.entry.now)) (λ fault h. h (AddEntry c.args.position c.args.entry.now) adds) c.add.result c.add.ensures.refused
