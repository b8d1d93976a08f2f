use Rattle.bib_keys.proofs.Words.{◌+◌, ◌-◌, length, KeepTheSame}
use Rattle.bib_keys.proofs.label_bases.make_room.Given as goal

abbrev pub invariant-grow : goal.invariant-grow
invariant-grow l = KeepTheSame l.initial.known.items l.known.items

abbrev pub decreases-grow : goal.decreases-grow
decreases-grow l = l.n + 1 - length l.known.items
