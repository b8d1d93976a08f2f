use Rattle.journal_format.proofs.Packing.{ArePlacesRead}
use Rattle.journal_format.proofs.packed_steps.split_places.Given as goal

abbrev pub invariant-step : goal.invariant-step
invariant-step l = ArePlacesRead l.version l.count l._n l.text l.places.items l.rest
