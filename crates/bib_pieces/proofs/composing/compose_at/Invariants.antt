use Rattle.std.proofs.Common.{◌+◌, length}
use Rattle.history_spec.specs.Composing.{composed_at}
use Rattle.bib_pieces.proofs.Advancing.{IsComposing}
use Rattle.bib_pieces.proofs.composing.compose_at.Given as goal

abbrev pub invariant-groups : goal.invariant-groups
invariant-groups l = IsComposing (composed_at l.from l.middle_from l.first l.second) l.backs l.ons l.pieces.items l.end l.middle_end

abbrev pub decreases-groups : goal.decreases-groups
decreases-groups l = length l.backs + length l.ons
