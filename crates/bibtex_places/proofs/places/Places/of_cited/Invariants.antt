use Rattle.std.proofs.Common.{◌≡◌, take, map}
use Rattle.bibtex_spec.specs.Places.{cited_place}
use Rattle.bibtex_places.proofs.places.Places.of_cited.Given as goal

abbrev pub invariant-add : goal.invariant-add
invariant-add l = l.places ≡ map cited_place (take l.key-index l.keys)
