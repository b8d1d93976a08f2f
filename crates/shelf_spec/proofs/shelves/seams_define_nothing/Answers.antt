use Rattle.shelf_spec.proofs.SeamsDefine.{are_listed, see_the_same}
use Rattle.shelf_spec.proofs.shelves.seams_define_nothing.Goals as goal

pub returns-clause-listed : goal.returns-clause-listed
returns-clause-listed c = are_listed

pub returns-clause-macros : goal.returns-clause-macros
returns-clause-macros c = see_the_same
