use Rattle.bib_journal.proofs.OneResult.{one-result}
use Rattle.bib_journal.proofs.laws.requests_have_one_result.Goals as goal

pub returns : goal.returns
returns c = one-result
