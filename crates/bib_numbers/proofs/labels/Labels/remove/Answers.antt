use Rattle.bib_numbers.proofs.Words.{sym, subst, AreLabels}
use Rattle.bib_numbers.proofs.RisingLabels.{labels_removed}
use Rattle.bib_numbers.proofs.labels.Labels.remove.Goals as goal

pub invariant_of-self : goal.invariant_of-self
invariant_of-self c = subst AreLabels (sym c.remove.ensures) (labels_removed c.self.inside.list c.args.k c.self.invariant)

pub returns-clause-labels : goal.returns-clause-labels
returns-clause-labels c = subst AreLabels (sym c.remove.ensures) (labels_removed c.self.inside.list c.args.k c.self.invariant)
