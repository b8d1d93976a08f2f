use Rattle.bib_journal.proofs.Words.{◌≡◌, ap, subst, IfOk-weaker, SessionState, idle, OpenStep, NoStep}
use Rattle.std.proofs.lemmas.Result.{IfErr-weaker}
use Rattle.bib_journal.specs.Turns.{HasTurned}
use Rattle.bib_journal.proofs.LoadLemmas.{memory_refuses, opened_short}
use Rattle.bib_journal.proofs.changing.turn_opened.Goals as goal

-- a session with no step open
is_idle : (s : SessionState) → s.current ≡ NoStep → s ≡ idle s.steps
is_idle s none = ap (λ (o : OpenStep). record { steps = s.steps; current = o }) none

pub returns-in-Ok-clause-refused : goal.returns-in-Ok-clause-refused
returns-in-Ok-clause-refused g c = IfErr-weaker c.turn-turned.result _ _ (λ fault is. memory_refuses fault _ _ (opened_short _ _ _ c.in-Ok.ensures.opened.opens) is) c.turn-turned.ensures.only

pub returns-in-Ok-clause-turned : goal.returns-in-Ok-clause-turned
returns-in-Ok-clause-turned g c =
    IfOk-weaker c.turn-turned.result _ _
    (λ turned has. record {
      opened = c.in-Ok.session.steps;
      opens = c.in-Ok.ensures.opened.opens;
      has_turned = subst (λ (s : SessionState). HasTurned c.args.request.now c.args.n s turned) (is_idle c.in-Ok.session c.in-Ok.ensures.opened.closed) has;
    })
    c.turn-turned.ensures.turned
