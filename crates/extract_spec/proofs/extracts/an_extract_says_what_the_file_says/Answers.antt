use Rattle.extract_spec.proofs.ExtractSays.{entries-picked, preambles-stay}
use Rattle.extract_spec.proofs.extracts.an_extract_says_what_the_file_says.Goals as goal

pub returns-clause-entries : goal.returns-clause-entries
returns-clause-entries c = entries-picked

pub returns-clause-preambles : goal.returns-clause-preambles
returns-clause-preambles c = preambles-stay
