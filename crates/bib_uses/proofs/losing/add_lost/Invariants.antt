use Rattle.std.proofs.Common.{◌≡◌, ◌++◌, map, take}
use Rattle.bib_uses.specs.Lost.{lost_use}
use Rattle.bib_uses.proofs.losing.add_lost.Given as goal

abbrev pub invariant-names : goal.invariant-names
invariant-names l = l.lost.items ≡ l.initial.lost.items ++ map (lost_use l.key) (take l.k l.names)
