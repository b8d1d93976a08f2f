use Rattle.bib_journal.proofs.Words.{◌≡◌, List, sym, subst, Piece, reversed, IsAllowed, steps-lead-back}
use Rattle.bib_journal.proofs.Turning.{can_turn}
use Rattle.bib_journal.proofs.stepping.go_back.Goals as goal

pub reverse-requires-clause-places : goal.reverse-requires-clause-places
reverse-requires-clause-places g c = (can_turn c.args.step.now _ _ c.requires).places

pub reverse-requires-clause-new_bytes : goal.reverse-requires-clause-new_bytes
reverse-requires-clause-new_bytes g c = (can_turn c.args.step.now _ _ c.requires).new_bytes

pub go_on-requires : goal.go_on-requires
go_on-requires g c =
    let is : c.as_slice.result.now ≡ reversed c.args.step.now = cc (c.as_slice.ensures, c.in-Ok.ensures.value) in
    subst (λ (s : List Piece). IsAllowed s c.args.db.now) (sym is) (steps-lead-back c.args.step.now _ _ c.requires).0
