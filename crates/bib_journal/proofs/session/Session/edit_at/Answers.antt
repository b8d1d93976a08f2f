use Rattle.bib_journal.proofs.Words.{subst, sym, IsSound, IsAllowed, SessionState, IsOpenIn, SessionFault}
use Rattle.bib_edit.specs.Positions.{IsRefusalAt}
use Rattle.bib_journal.proofs.Moves.{IsPlaced, placed, placed_leads, made_edit_at, refused_at, where_accepted}
use Rattle.bib_journal.specs.Session.{RefusesEditAt}
use Rattle.bib_journal.proofs.session.Session.edit_at.Given.{Over}
use Rattle.bib_journal.proofs.session.Session.edit_at.Goals as goal

is_placed : (g : Over) (c : goal.After-make-arg-1 g) → IsPlaced c.self.inside.database c.args.position.now c.args.edit.now c.in-Ok.pieces
is_placed g c = placed c.self.inside.database c.args.position.now c.args.edit.now c.in-Ok.pieces c.self.invariant.sound.present c.in-Ok.ensures.pieces c.in-Ok.ensures.allowed

pub returns-in-Err-clause-refused : goal.returns-in-Err-clause-refused
returns-in-Err-clause-refused g c =
    subst (λ (f : SessionFault). RefusesEditAt f c.args.position.now c.args.edit.now c.args.self.now) (sym c.refused.ensures)
    (refused_at c.args.position.now c.args.edit.now c.in-Err.fault c.args.self.now
    (subst (λ (s : SessionState). IsRefusalAt s.steps.present c.args.position.now c.args.edit.now c.in-Err.fault) c.self.view_is c.in-Err.ensures.refused))

pub make-requires : goal.make-requires
make-requires g c =
    subst (λ (s : SessionState). IsAllowed c.in-Ok.pieces s.steps.present) c.self.view_is
    (placed_leads c.self.inside.database c.args.position.now c.args.edit.now c.in-Ok.pieces c.self.invariant.sound.present (is_placed g c))

pub returns-clause-made : goal.returns-clause-made
returns-clause-made g c =
    where_accepted c.make.result
    (λ makes current room. made_edit_at c.args.position.now c.args.edit.now c.in-Ok.pieces c.args.self.now c.make.new.self
    (subst (λ (s : SessionState). IsSound s.steps) c.self.view_is c.self.invariant.sound)
    (subst (λ (s : SessionState). IsOpenIn s.steps s.current) c.self.view_is c.self.invariant.current)
    (subst (λ (s : SessionState). IsPlaced s.steps.present c.args.position.now c.args.edit.now c.in-Ok.pieces) c.self.view_is
    (placed c.self.inside.database c.args.position.now c.args.edit.now c.in-Ok.pieces c.self.invariant.sound.present c.in-Ok.ensures.pieces c.in-Ok.ensures.allowed))
    room makes current)
    c.make.ensures.made c.make.ensures.current c.make.ensures.room
