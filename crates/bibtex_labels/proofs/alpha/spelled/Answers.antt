use Rattle.bibtex_labels.proofs.NameLemmas.{read_template}
use Rattle.bibtex_labels.proofs.alpha.spelled.Goals as goal

pub returns-in-Ok : goal.returns-in-Ok
returns-in-Ok c = read_template _ _ c.in-Ok.ensures.found
