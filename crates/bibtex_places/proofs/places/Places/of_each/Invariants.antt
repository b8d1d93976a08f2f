use Rattle.std.proofs.Common.{map}
use Rattle.bibtex_places.specs.Seen.{seen}
use Rattle.bibtex_places.proofs.EachPlace.{IsEach}
use Rattle.bibtex_places.proofs.places.Places.of_each.Given as goal

abbrev pub invariant-each : goal.invariant-each
invariant-each l = IsEach l.entries l.n (map seen l.all.items) l.table
