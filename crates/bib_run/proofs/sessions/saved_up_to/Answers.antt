use Rattle.bib_run.proofs.Words.{Bool, sym, refl, subst, IfOk-weaker}
use Rattle.std.proofs.Common.{IfOk}
use Rattle.bib_run.specs.Shown.{SavesUpTo}
use Rattle.bib_run.proofs.FileDigests.{file_saved}
use Rattle.bib_run.proofs.sessions.saved_up_to.Goals as goal

pub returns-then-no_journal : goal.returns-then-no_journal
returns-then-no_journal c =
    let kept = c.args.session.now.steps in
    subst (λ (b : Bool). IfOk c.file_alone.result (SavesUpTo b kept)) (sym c.if-no_journal.true)
    (IfOk-weaker c.file_alone.result _ _ (λ given file. file_saved kept given c.is_sound.ensures file) c.file_alone.ensures)

pub returns-in-Ok : goal.returns-in-Ok
returns-in-Ok c = record { saved = c.in-Ok.saved; saves = c.in-Ok.ensures.saved; file = refl; journal = λ stored. refl }
