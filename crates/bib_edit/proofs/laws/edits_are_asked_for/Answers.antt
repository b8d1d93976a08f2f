use Rattle.bib_edit.proofs.AskedEdits.{asked_for}
use Rattle.bib_edit.proofs.laws.edits_are_asked_for.Goals as goal

pub returns : goal.returns
returns c = asked_for
