use Rattle.bib_journal.proofs.Words.{subst, OnOk, IsSound, IsAllowed, IsAllowedEdit, ArePiecesOf, SessionState, IsOpenIn, MakesEdit}
use Rattle.bib_journal.proofs.Moves.{planned_leads, made_edit, where_accepted}
use Rattle.bib_journal.proofs.session.Session.edit.Goals as goal

pub make-requires : goal.make-requires
make-requires g c =
    subst (λ (s : SessionState). IsAllowed c.in-Ok.pieces s.steps.present) c.self.view_is
    (planned_leads c.self.inside.database c.args.edit.now c.in-Ok.pieces c.self.invariant.sound.present c.in-Ok.ensures.allowed c.in-Ok.ensures.pieces)

pub returns-clause-made : goal.returns-clause-made
returns-clause-made g c =
    subst (λ (old : SessionState). OnOk c.make.result (MakesEdit c.args.edit.now old c.make.new.self)) c.note_parts.ensures
    (where_accepted c.make.result
    (λ makes current room. made_edit c.args.edit.now c.in-Ok.pieces c.note_parts.new.self c.make.new.self
    (subst (λ (s : SessionState). IsSound s.steps) c.self.view_is c.self.invariant.sound)
    (subst (λ (s : SessionState). IsOpenIn s.steps s.current) c.self.view_is c.self.invariant.current)
    (subst (λ (s : SessionState). IsAllowedEdit s.steps.present c.args.edit.now) c.self.view_is c.in-Ok.ensures.allowed)
    (subst (λ (s : SessionState). ArePiecesOf s.steps.present c.args.edit.now c.in-Ok.pieces) c.self.view_is c.in-Ok.ensures.pieces)
    room makes current)
    c.make.ensures.made c.make.ensures.current c.make.ensures.room)
