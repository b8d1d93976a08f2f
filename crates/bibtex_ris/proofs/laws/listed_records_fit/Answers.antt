use Rattle.bibtex_ris.proofs.SpacedRecords.{listed_records_fit}
use Rattle.bibtex_ris.proofs.laws.listed_records_fit.Goals as goal

pub returns : goal.returns
returns c = listed_records_fit
