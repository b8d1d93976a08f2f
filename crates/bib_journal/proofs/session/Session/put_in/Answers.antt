use Rattle.bib_journal.proofs.Words.{subst, sym, ap, ◌∙◌, false≢true, OpenStep, LacksRoom}
use Rattle.std.specs.Prelude.{Err}
use Rattle.bib_journal.specs.Session.{RefusesPieces}
use Rattle.bib_journal.proofs.Moves.{unkept_pieces}
use Rattle.bib_journal.proofs.session.Session.put_in.Goals as goal

pub returns-in-Ok-false-clause-refused : goal.returns-in-Ok-false-clause-refused
returns-in-Ok-false-clause-refused g c =
    RefusesPieces.unopenable
    (subst (λ (o : OpenStep). LacksRoom o c.args.pieces c.args.self.now.steps → ⊥) c.requires c.in-Ok-false.ensures.room)
    (λ leads. false≢true (sym c.in-Ok-false.field-0-test ∙ c.in-Ok-false.ensures.allowed.1 leads))

pub returns-in-Err-clause-refused : goal.returns-in-Err-clause-refused
returns-in-Err-clause-refused g c =
    unkept_pieces c.args.pieces c.args.self.now c.in-Err.fault c.requires c.in-Err.ensures.only (λ e. c.in-Err.ensures.full (ap Err e))
