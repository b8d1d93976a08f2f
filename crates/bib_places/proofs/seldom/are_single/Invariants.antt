use Rattle.std.proofs.Common.{◌≡◌, true, take}
use Rattle.std.specs.Prelude.{nat_le}
use Rattle.std.specs.List.{list_all}
use Rattle.bib_places.specs.Tallies.{count_of}
use Rattle.bib_places.proofs.seldom.are_single.Given as goal

abbrev pub invariant-codes : goal.invariant-codes
invariant-codes l = list_all (λ code. nat_le (count_of code l.merged) 1) (take l.k l.merged) ≡ true
