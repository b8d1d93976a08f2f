use Rattle.history_spec.proofs.HistoryLemmas.{amended-edit}
use Rattle.history_spec.proofs.histories.edits_of_a_step_are_one_edit.Goals as goal

pub returns : goal.returns
returns c = amended-edit
