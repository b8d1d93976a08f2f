use Rattle.bib_numbers.proofs.Words.{◌≡◌, ◌+◌, map, set, page_at, plus, moved_from}
use Rattle.bib_numbers.proofs.Moves.{moved_so_far}
use Rattle.bib_numbers.proofs.leaves.shift_from.Given as goal

abbrev pub invariant-pass : goal.invariant-pass
invariant-pass l = l.leaves ≡ moved_so_far (map (plus l.step)) l.q (l.p + 1) (set l.fn.leaves l.p (moved_from (plus l.step) l.k (page_at l.fn.leaves l.p)))
