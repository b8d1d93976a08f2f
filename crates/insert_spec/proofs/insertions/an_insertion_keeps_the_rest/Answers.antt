use Rattle.insert_spec.proofs.PutItems.{insertion-keeps-trees, first-insertion-keeps, later-insertion-keeps}
use Rattle.insert_spec.proofs.insertions.an_insertion_keeps_the_rest.Goals as goal

pub returns-clause-trees : goal.returns-clause-trees
returns-clause-trees c = insertion-keeps-trees

pub returns-clause-first : goal.returns-clause-first
returns-clause-first c = first-insertion-keeps

pub returns-clause-later : goal.returns-clause-later
returns-clause-later c = later-insertion-keeps
