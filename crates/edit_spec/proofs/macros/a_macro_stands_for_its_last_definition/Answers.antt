use Rattle.edit_spec.proofs.Seen.{sees-last-definition, sees-months}
use Rattle.edit_spec.proofs.Balanced.{macros-balance}
use Rattle.edit_spec.proofs.macros.a_macro_stands_for_its_last_definition.Goals as goal

pub returns-clause-last : goal.returns-clause-last
returns-clause-last c = sees-last-definition

pub returns-clause-months : goal.returns-clause-months
returns-clause-months c = sees-months

pub returns-clause-balance : goal.returns-clause-balance
returns-clause-balance c = macros-balance
