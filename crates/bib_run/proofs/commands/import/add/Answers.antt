use Rattle.bib_run.proofs.Words.{refl, IfOk-weaker}
use Rattle.bib_run.specs.ImportAnswer.{added, refused, added_answer}
use Rattle.bib_run.proofs.UpToJournal.{added_same, up_to}
use Rattle.bib_run.proofs.commands.import.add.Goals as goal

pub returns-in-Err : goal.returns-in-Err
returns-in-Err c = IfOk-weaker c.unadded.result _ _ (λ answer h. up_to c.args.no_journal _ answer (refused c.in-Err.fault h.0 c.in-Err.ensures.refused h.1)) c.unadded.ensures

pub returns : goal.returns
returns c =
    let up = c.in_ok-saved.ensures in
    record {
      stored = added_answer c.args.told up.saved;
      answers = added c.add_entries.new.session up.saved c.in_default.ensures.made up.saves refl;
      same = added_same c.args.no_journal c.add_entries.new.session.steps c.in_ok-saved.saved up c.args.told c.outcome_after-outcome.result c.outcome_after-outcome.ensures;
    }
