use Rattle.history_spec.proofs.StepLemmas.{adding-edits, joining-amends, going-back-undoes, going-on-redoes, steps-lead-back}
use Rattle.history_spec.proofs.stepping.steps_move_as_the_history_does.Goals as goal

pub returns-clause-edit : goal.returns-clause-edit
returns-clause-edit c = adding-edits

pub returns-clause-join : goal.returns-clause-join
returns-clause-join c = joining-amends

pub returns-clause-undo : goal.returns-clause-undo
returns-clause-undo c = going-back-undoes

pub returns-clause-redo : goal.returns-clause-redo
returns-clause-redo c = going-on-redoes

pub returns-clause-back : goal.returns-clause-back
returns-clause-back c = steps-lead-back
