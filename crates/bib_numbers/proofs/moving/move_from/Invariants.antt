use Rattle.bib_numbers.proofs.Words.{◌≡◌, plus}
use Rattle.bib_numbers.proofs.Moves.{moved_so_far}
use Rattle.bib_numbers.proofs.moving.move_from.Given as goal

abbrev pub invariant-pass : goal.invariant-pass
invariant-pass l = l.numbers ≡ moved_so_far (plus l.step) l.i l.from l.initial.numbers
