use Rattle.std.proofs.Common.{rules, ◌≡◌, ◌≢◌, subst}
use Rattle.std.proofs.lemmas.Result.{on_ok_weaker}
use Rattle.bib_journal.specs.OpenSteps.{SessionState}
use Rattle.bib_journal.specs.Session.{Does, RefusesBegin}
use Rattle.bib_journal.specs.declared.fault.SessionFault.{SessionFault}
use Rattle.bib_journal.specs.declared.fault.SessionFault.TheVariants.{StepOpen}
use Rattle.bib_journal.specs.declared.open_step.OpenStep.TheVariants.{NoStep}
use Rattle.bib_state.proofs.OpenSteps.{open_makes}
use Rattle.bib_state.proofs.making.make_step.Goals as goal

pub returns-then-eq-clause-made : goal.returns-then-eq-clause-made
returns-then-eq-clause-made c =
    let same : c.in-Err.fault ≡ StepOpen = search rules in
    let some : c.args.session.now.current ≢ NoStep = subst (λ (f : SessionFault). RefusesBegin f c.args.session.now) same c.in-Err.ensures.refused in
    on_ok_weaker c.perform_one.result
    (λ did. open_makes c.args.label.now c.args.change.now c.args.session.now.steps c.args.session.now.current c.perform_one.new.session some
    (subst (λ (s : SessionState). Does c.args.change.now s c.perform_one.new.session) c.in-Err.ensures.err did))
    c.perform_one.ensures.done
