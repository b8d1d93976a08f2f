use Rattle.history_spec.proofs.Words.{refl}
use Rattle.history_spec.proofs.Glued.{composed-fit, composed-lead}
use Rattle.history_spec.proofs.Parted.{members-are-parted}
use Rattle.history_spec.proofs.Untouched.{untouched-stay}
use Rattle.history_spec.proofs.Around.{composed-stand_apart, composed-in_turn, nothing-changes}
use Rattle.history_spec.proofs.composing.composed_pieces_are_both_edits.Goals as goal

pub returns-clause-fit : goal.returns-clause-fit
returns-clause-fit c = composed-fit

pub returns-clause-lead : goal.returns-clause-lead
returns-clause-lead c = composed-lead

pub returns-clause-parted : goal.returns-clause-parted
returns-clause-parted c = members-are-parted

pub returns-clause-untouched : goal.returns-clause-untouched
returns-clause-untouched c = untouched-stay

pub returns-clause-joined : goal.returns-clause-joined
returns-clause-joined c = refl

pub returns-clause-apart : goal.returns-clause-apart
returns-clause-apart c = refl

pub returns-clause-stand_apart : goal.returns-clause-stand_apart
returns-clause-stand_apart c = composed-stand_apart

pub returns-clause-in_turn : goal.returns-clause-in_turn
returns-clause-in_turn c = composed-in_turn

pub returns-clause-nothing : goal.returns-clause-nothing
returns-clause-nothing c = nothing-changes
