use Rattle.history_spec.proofs.HistoryLemmas.{one-edit, one-amendment, one-undo, one-redo, no-undo, no-redo}
use Rattle.history_spec.proofs.histories.each_move_leads_to_one_history.Goals as goal

pub returns-clause-edit : goal.returns-clause-edit
returns-clause-edit c = one-edit

pub returns-clause-amendment : goal.returns-clause-amendment
returns-clause-amendment c = one-amendment

pub returns-clause-undo : goal.returns-clause-undo
returns-clause-undo c = one-undo

pub returns-clause-redo : goal.returns-clause-redo
returns-clause-redo c = one-redo

pub returns-clause-nothing_to_undo : goal.returns-clause-nothing_to_undo
returns-clause-nothing_to_undo c = no-undo

pub returns-clause-nothing_to_redo : goal.returns-clause-nothing_to_redo
returns-clause-nothing_to_redo c = no-redo
