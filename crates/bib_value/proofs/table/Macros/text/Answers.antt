use Rattle.bib_spec.specs.Text.{folded}
use Rattle.bib_value.proofs.MonthLemmas.{shown_short}
use Rattle.bib_value.proofs.table.Macros.text.Goals as goal

pub returns-in-None-clause-short : goal.returns-in-None-clause-short
returns-in-None-clause-short c = shown_short c.month.result (folded c.args.name.now) c.month.ensures
