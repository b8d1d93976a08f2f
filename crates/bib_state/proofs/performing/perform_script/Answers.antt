use Rattle.std.specs.Prelude.{◌≡◌, ℕ, List}
use Rattle.std.proofs.Common.{◌∙◌, ap, subst, sym}
use Rattle.bib_data.specs.declared.request.Request.{Request}
use Rattle.bib_journal.specs.Session.{Performs}
use Rattle.bib_script.specs.Script.{Said, said_of}
use Rattle.bib_state.specs.Calls.{performed, stopped, stopped_line}
use Rattle.bib_state.proofs.performing.perform_script.Goals as goal

pub returns : goal.returns
returns c =
    let done = c.perform-performed.result.done in
    let fault = c.perform-performed.result.fault in
    let script = said_of c.args.script.now in
    let old = c.args.session.now in
    let new = c.perform-performed.new.session in
    let is : c.in-Ok.script ≡ script = c.in-Ok.ensures.said in
    let asked : c.as_slice.result.now ≡ script.requests = cc (c.as_slice.ensures, ap (λ (s : Said). s.requests) (c.script.view_is ∙ is)) in
    let performs : Performs script.requests done fault old new = subst (λ (rs : List Request). Performs rs done fault old new) asked c.perform-performed.ensures in
    let count = sym c.counted_in.ensures.done in
    performed fault
    (c.counted_in.ensures.fault ∙ ap (λ (s : Said). stopped s fault) is)
    (c.counted_in.ensures.line ∙ ap (λ (s : Said). stopped_line s done fault) is ∙ ap (λ (n : ℕ). stopped_line script n fault) count)
    (subst (λ (n : ℕ). Performs script.requests n fault old new) count performs)
