use Rattle.bib_names.proofs.TemplateLaws.{one_template}
use Rattle.bib_names.proofs.template.one_template.Goals as goal

pub returns : goal.returns
returns c = one_template
