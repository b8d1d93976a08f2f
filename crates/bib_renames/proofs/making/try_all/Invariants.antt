use Rattle.bib_spec.specs.Text.{Text}
use Rattle.bib_renames.specs.Renamed.{HasRenamed}
use Rattle.bib_renames.proofs.making.try_all.Given as goal

abbrev pub invariant-changes : goal.invariant-changes
invariant-changes g l = (file : Text) → HasRenamed l.giver.side.now l.giver.base.now file l.fn.session → HasRenamed l.giver.side.now l.giver.base.now file l.session
