use Rattle.bib_places.specs.PlacesSeen.{number_in}
use Rattle.bib_places.proofs.Marks.{IsMarkedTo}
use Rattle.bib_places.proofs.once.are_once.Given as goal

abbrev pub invariant-places : goal.invariant-places
invariant-places l = IsMarkedTo (number_in l.file) l.places l.count l.k l.marks.items
