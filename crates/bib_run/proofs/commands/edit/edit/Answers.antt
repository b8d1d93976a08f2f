use Rattle.bib_run.proofs.Words.{◌≡◌, ◌∙◌, List, Option, refl, ap, subst, IfOk-weaker, Text, Request, Performs, Said, said_of, edited_answer, stop_line}
use Rattle.bib_run.specs.Shown.{kept_with, SavesUpTo}
use Rattle.bib_run.proofs.UpToJournal.{edited_same}
use Rattle.bib_run.proofs.commands.edit.edit.Goals as goal

pub returns : goal.returns
returns c =
    let done = c.in_ok-performed.performed.done in
    let fault = c.in_ok-performed.performed.fault in
    let said : c.in_ok-script.script ≡ said_of c.args.input.now = c.in_ok-script.ensures.said in
    let asked : c.as_slice-requests.result.now ≡ (said_of c.args.input.now).requests = cc (c.as_slice-requests.ensures, ap (λ (s : Said). s.requests) (c.script.view_is ∙ said)) in
    let message : c.in_ok-message.message ≡ stop_line (said_of c.args.input.now) done fault = c.in_ok-message.ensures ∙ ap (λ (s : Said). stop_line s done fault) said in
    let performs : Performs (said_of c.args.input.now).requests done fault c.args.session.now c.perform_told.new.session =
    subst (λ (rs : List Request). Performs rs done fault c.args.session.now c.perform_told.new.session) asked c.in_ok-performed.ensures.performs in
    let saved = c.in_ok-saved.saved in
    let up : SavesUpTo c.args.no_journal c.perform_told.new.session.steps saved = c.in_ok-saved.ensures in
    IfOk-weaker c.edited_answer.result _ _
    (λ answer is. record {
      stored = edited_answer (said_of c.args.input.now).requests done (stop_line (said_of c.args.input.now) done fault) up.saved;
      answers = record { done = done; fault = fault; closed = c.perform_told.new.session; saved = up.saved; told = c.in_ok-performed.ensures.told; performs = performs; saves = up.saves; answered = refl };
      same = ap (kept_with c.args.no_journal)
          (is ∙ ap (λ (rs : List Request). edited_answer rs done c.in_ok-message.message saved) asked
          ∙ ap (λ (m : Option Text). edited_answer (said_of c.args.input.now).requests done m saved) message)
          ∙ edited_same c.args.no_journal c.perform_told.new.session.steps saved up (said_of c.args.input.now).requests done (stop_line (said_of c.args.input.now) done fault);
    })
    c.edited_answer.ensures
