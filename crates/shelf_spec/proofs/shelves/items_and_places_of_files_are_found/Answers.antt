use Rattle.shelf_spec.proofs.ShelfPlaces.{are_numbered, are_located, are_placed, are_placed_and_located}
use Rattle.shelf_spec.proofs.shelves.items_and_places_of_files_are_found.Goals as goal

pub returns-clause-numbers : goal.returns-clause-numbers
returns-clause-numbers c = are_numbered

pub returns-clause-located : goal.returns-clause-located
returns-clause-located c = are_located

pub returns-clause-placed : goal.returns-clause-placed
returns-clause-placed c = are_placed

pub returns-clause-found : goal.returns-clause-found
returns-clause-found c = are_placed_and_located
