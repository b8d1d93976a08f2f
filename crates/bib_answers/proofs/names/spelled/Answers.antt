use Rattle.bib_answers.specs.Names.{spelled, misspelled}
use Rattle.bib_answers.proofs.names.spelled.Goals as goal

pub returns-in-Ok : goal.returns-in-Ok
returns-in-Ok c = spelled c.in-Ok.template c.in-Ok.ensures.found.0 c.in-Ok.ensures.found.1

pub returns-in-Err-BadTemplate : goal.returns-in-Err-BadTemplate
returns-in-Err-BadTemplate c = misspelled (c.read.ensures.refused (cc (c.in-Err-BadTemplate.is, c.in-Err-BadTemplate.field-0-is)))
