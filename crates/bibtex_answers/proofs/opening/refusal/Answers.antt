use Rattle.std.proofs.Common.{◌≢◌, ◌∙◌, ◌==◌, ℕ, [], length, drop, sym, ap, ap₂, subst}
use Rattle.std.proofs.lemmas.Bool.{false≢true}
use Rattle.std.proofs.lemmas.Result.{IfOk-weaker}
use Rattle.bib_spec.specs.Text.{Text}
use Rattle.bib_spec.specs.Texts.{IsOpenable}
use Rattle.bib_store.specs.Readings.{IsOpenFault}
use Rattle.bib_answers.specs.Messages.{refusal_line}
use Rattle.bib_answers.specs.Outcome.{answer_of}
use Rattle.bibtex_answers.specs.StyleMacros.{style_macros}
use Rattle.bibtex_answers.proofs.Refusals.{own_fault, style_fault, drop_front}
use Rattle.bibtex_answers.proofs.opening.refusal.Goals as goal

pub returns-in-Ok : goal.returns-in-Ok
returns-in-Ok c answers file returned joined =
    let others : c.args.unopened.fault.kind ≢ 10 = λ e. false≢true (sym c.if-is_memory.false ∙ c.is_memory.ensures ∙ ap (λ (k : ℕ). k == 10) e) in
    let file_is = c.split_at.ensures.back ∙ ap₂ (λ (n : ℕ) (t : Text). drop n t) (ap length c.style_macros.ensures) (c.as_slice.ensures ∙ returned others) ∙ drop_front style_macros file in
    IfOk-weaker c.unread.result _ _
    (λ answer h. style_fault answers file c.args.unopened.fault.kind c.args.unopened.fault.place answer (subst IsOpenable file_is c.in-Ok.ensures.file) joined
    (others, h.1 ∙ ap₂ (λ (kind place : ℕ). answer_of [] (refusal_line kind place) 1) c.in_file.ensures.0 c.in_file.ensures.1))
    c.unread.ensures

pub returns : goal.returns
returns c answers file returned joined =
    let others : c.args.unopened.fault.kind ≢ 10 = λ e. false≢true (sym c.if-is_memory.false ∙ c.is_memory.ensures ∙ ap (λ (k : ℕ). k == 10) e) in
    let file_is = c.split_at.ensures.back ∙ ap₂ (λ (n : ℕ) (t : Text). drop n t) (ap length c.style_macros.ensures) (c.as_slice.ensures ∙ returned others) ∙ drop_front style_macros file in
    IfOk-weaker c.unread-in-Err.result _ _
    (λ answer h. own_fault answers file c.in-Err.own.kind c.in-Err.own.place c.args.unopened.fault.kind c.args.unopened.fault.place answer
    (subst (λ (t : Text). IsOpenFault t c.in-Err.own.kind c.in-Err.own.place) file_is c.in-Err.ensures.fault) others joined h)
    c.unread-in-Err.ensures
