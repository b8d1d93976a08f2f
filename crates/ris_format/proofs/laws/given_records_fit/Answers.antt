use Rattle.ris_format.proofs.FitLaws.{spaced_records_fit}
use Rattle.ris_format.proofs.GivenLaws as given
use Rattle.ris_format.proofs.laws.given_records_fit.Goals as goal

pub returns-clause-spaced : goal.returns-clause-spaced
returns-clause-spaced c = spaced_records_fit

pub returns-clause-given : goal.returns-clause-given
returns-clause-given c = given.given_records_fit
