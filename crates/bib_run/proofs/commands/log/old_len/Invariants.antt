use Rattle.bib_run.proofs.Words.{◌≡◌, ◌-◌, ◌^◌, length, min, sum_by, take}
use Rattle.bib_run.proofs.commands.log.old_len.Given as goal

abbrev pub invariant-piece : goal.invariant-piece
invariant-piece l = l.len ≡ min (sum_by (λ p. length p.old) (take l.piece-index l.pieces)) (2 ^ 64 - 1)
