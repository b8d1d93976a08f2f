use Rattle.bib_steps.proofs.Words.{◌≡◌, ◌≤◌, ◌+◌, ◌++◌, ends_from}
use Rattle.std.proofs.Common.{vec_len, vec_capacity}
use Rattle.bib_steps.proofs.Renewed.{IsRenewed}
use Rattle.bib_steps.proofs.ends.add_ends.Given as goal

abbrev pub invariant-loop-piece : goal.invariant-loop-piece
invariant-loop-piece l =
    IsRenewed (l.initial.ends.items ++ ends_from l.initial.end l.initial.new_end l.pieces) l.pieces l.ends.items l.end l.new_end l.piece-index
    × (vec_len l.ends ≡ vec_len l.initial.ends + l.piece-index)
    × (vec_capacity l.initial.ends ≤ vec_capacity l.ends)
