use Rattle.history_spec.proofs.HistoryLemmas.{undo-edit, redo-undo, undo-redo}
use Rattle.history_spec.proofs.histories.undo_and_redo_are_opposites.Goals as goal

pub returns-clause-edit : goal.returns-clause-edit
returns-clause-edit c = undo-edit

pub returns-clause-redo : goal.returns-clause-redo
returns-clause-redo c = redo-undo

pub returns-clause-undo : goal.returns-clause-undo
returns-clause-undo c = undo-redo
