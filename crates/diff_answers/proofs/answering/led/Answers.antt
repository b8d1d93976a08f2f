use Rattle.std.proofs.Common.{◌≢◌, ◌==◌, List, [], length, Option, IfSome, sym, ◌∙◌, ap, subst}
use Rattle.std.proofs.lemmas.Bool.{false≢true}
use Rattle.std.proofs.lemmas.Result.{IfOk-weaker}
use Rattle.bib_spec.specs.Text.{Text}
use Rattle.bib_data.specs.declared.request.Request.{Request}
use Rattle.script_text.specs.Saying.{Says}
use Rattle.diff_answers.proofs.LedSo.{differ_so, unsaid_so}
use Rattle.diff_answers.proofs.answering.led.Goals as goal

pub returns-in-Some : goal.returns-in-Some
returns-in-Some c = λ old new leads needed.
    let some : c.args.requests.now ≢ [] = λ e. false≢true (sym c.if-is_empty.false ∙ c.is_empty.ensures ∙ ap (λ (rs : List Request). length rs == 0) e) in
    let says : Says c.args.requests.now c.in-Some.script = subst (λ (o : Option Text). IfSome o (Says c.args.requests.now)) c.in-Some.is c.in_ok-script.ensures in
    differ_so c.args.old_name.now c.args.new_name.now old new c.args.requests.now c.in-Some.script c.found.result some says c.found.ensures leads needed

pub returns-in-None : goal.returns-in-None
returns-in-None c = IfOk-weaker c.unled.result _ _ (λ answer is. λ old new leads needed.
    let some : c.args.requests.now ≢ [] = λ e. false≢true (sym c.if-is_empty.false ∙ c.is_empty.ensures ∙ ap (λ (rs : List Request). length rs == 0) e) in
    unsaid_so c.args.old_name.now c.args.new_name.now old new c.args.requests.now answer some is.0 is.1 leads needed)
    c.unled.ensures
