use Rattle.extract_spec.proofs.ExtractOpens.{uses-stay, raw_texts-stay, extract-opens, extract-length}
use Rattle.extract_spec.proofs.extracts.an_extract_can_be_opened.Goals as goal

pub returns-clause-uses : goal.returns-clause-uses
returns-clause-uses c = uses-stay

pub returns-clause-texts : goal.returns-clause-texts
returns-clause-texts c = raw_texts-stay

pub returns-clause-opens : goal.returns-clause-opens
returns-clause-opens c = extract-opens

pub returns-clause-len : goal.returns-clause-len
returns-clause-len c = extract-length
