use Rattle.bib_journal.proofs.Words.{◌≡◌, subst, sym, ap, ◌∙◌, false≢true, IsSound, SessionState, NoStep}
use Rattle.std.proofs.lemmas.Result.{on_ok_weaker, IfErr-weaker}
use Rattle.bib_journal.specs.Session.{PlansInsertion, RefusesPlan, RefusesInsertion}
use Rattle.bib_journal.proofs.Moves.{made_insertion, refused_pieces}
use Rattle.bib_journal.proofs.session.Session.insert.Goals as goal

pub returns-then-not-is_none-clause-refused : goal.returns-then-not-is_none-clause-refused
returns-then-not-is_none-clause-refused g c =
    RefusesInsertion.during (λ none. false≢true (sym c.if-not-is_none.true ∙ c.is_none.ensures.1 (ap (λ (s : SessionState). s.current) c.self.view_is ∙ none)))

pub returns-in-Ok-clause-inserted : goal.returns-in-Ok-clause-inserted
returns-in-Ok-clause-inserted g c =
    let none : c.args.self.now.current ≡ NoStep = sym (ap (λ (s : SessionState). s.current) c.self.view_is) ∙ c.is_none.ensures.0 c.if-not-is_none.false in
    let plan = subst (λ (s : SessionState). PlansInsertion c.args.position.now s.steps.present c.args.text.now c.in-Ok.pieces) c.self.view_is c.in-Ok.ensures.planned in
    on_ok_weaker c.put_in.result
    (λ made. made_insertion c.args.position.now c.args.text.now c.in-Ok.pieces c.args.self.now c.put_in.new.self (subst (λ (s : SessionState). IsSound s.steps) c.self.view_is c.self.invariant.sound) none plan made)
    c.put_in.ensures.made

pub returns-in-Ok-clause-refused : goal.returns-in-Ok-clause-refused
returns-in-Ok-clause-refused g c =
    let none : c.args.self.now.current ≡ NoStep = sym (ap (λ (s : SessionState). s.current) c.self.view_is) ∙ c.is_none.ensures.0 c.if-not-is_none.false in
    let plan = subst (λ (s : SessionState). PlansInsertion c.args.position.now s.steps.present c.args.text.now c.in-Ok.pieces) c.self.view_is c.in-Ok.ensures.planned in
    IfErr-weaker c.put_in.result _ _ (λ fault why. refused_pieces c.args.position.now c.args.text.now c.in-Ok.pieces c.args.self.now fault none plan why) c.put_in.ensures.refused

pub returns-in-Err-clause-refused : goal.returns-in-Err-clause-refused
returns-in-Err-clause-refused g c =
    let none : c.args.self.now.current ≡ NoStep = sym (ap (λ (s : SessionState). s.current) c.self.view_is) ∙ c.is_none.ensures.0 c.if-not-is_none.false in
    RefusesInsertion.unplanned c.in-Err.fault none
    (subst (λ (s : SessionState). RefusesPlan c.in-Err.fault c.args.position.now s.steps.present c.args.text.now) c.self.view_is c.in-Err.ensures.refused)
