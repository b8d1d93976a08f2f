use Rattle.history_spec.proofs.HistoryLemmas.{undoing-all, redoing-all}
use Rattle.history_spec.proofs.histories.the_ends_are_reached.Goals as goal

pub returns-clause-first : goal.returns-clause-first
returns-clause-first c = undoing-all

pub returns-clause-last : goal.returns-clause-last
returns-clause-last c = redoing-all
