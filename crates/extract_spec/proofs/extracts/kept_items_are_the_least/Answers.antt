use Rattle.extract_spec.proofs.LeastEntries.{kept-entries_are_least}
use Rattle.extract_spec.proofs.Needs.{kept-have_needs, kept-are_least}
use Rattle.extract_spec.proofs.extracts.kept_items_are_the_least.Goals as goal

pub returns-clause-needs : goal.returns-clause-needs
returns-clause-needs c = kept-have_needs

pub returns-clause-least : goal.returns-clause-least
returns-clause-least c = kept-are_least

pub returns-clause-entries : goal.returns-clause-entries
returns-clause-entries c = kept-entries_are_least
