use Rattle.bib_run.proofs.Words.{◌∙◌, refl, ap, IfOk-weaker, Option, Text, edited_answer, fault_message}
use Rattle.bib_run.specs.Shown.{kept_with, SavesUpTo}
use Rattle.bib_run.proofs.UpToJournal.{edited_same}
use Rattle.bib_run.proofs.commands.edit.edit_alone.Goals as goal

pub returns : goal.returns
returns c =
    let done = c.in_ok-performed.performed.done in
    let fault = c.in_ok-performed.performed.fault in
    let saved = c.in_ok-saved.saved in
    let up : SavesUpTo c.args.no_journal c.perform_told.new.session.steps saved = c.in_ok-saved.ensures in
    IfOk-weaker c.edited_answer.result _ _
    (λ answer is. record {
      stored = edited_answer c.args.requests.now done (fault_message done fault) up.saved;
      answers = record { done = done; fault = fault; closed = c.perform_told.new.session; saved = up.saved; told = c.in_ok-performed.ensures.told; performs = c.in_ok-performed.ensures.performs; saves = up.saves; answered = refl };
      same = ap (kept_with c.args.no_journal) (is ∙ ap (λ (m : Option Text). edited_answer c.args.requests.now done m saved) c.in_ok-message.ensures)
          ∙ edited_same c.args.no_journal c.perform_told.new.session.steps saved up c.args.requests.now done (fault_message done fault);
    })
    c.edited_answer.ensures
