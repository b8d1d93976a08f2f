use Rattle.std.proofs.Common.{sym, subst}
use Rattle.std.proofs.lemmas.Result.{IfOk-weaker}
use Rattle.bib_renames.specs.Renamed.{HasRenamed}
use Rattle.bib_renames.proofs.Renamings.{none_yet}
use Rattle.bib_renames.proofs.making.changed.Goals as goal

pub returns-in-Ok : goal.returns-in-Ok
returns-in-Ok g c =
    let side = c.args.giver.now.side.now in
    let base = c.args.giver.now.base.now in
    let file = c.args.file.now in
    IfOk-weaker c.made_in-made.result _ _ (λ made renamed. renamed file (subst (HasRenamed side base file) (sym c.in-Ok.ensures.started) (none_yet side base file))) c.made_in-made.ensures
