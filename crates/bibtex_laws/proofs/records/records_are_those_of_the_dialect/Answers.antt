use Rattle.bibtex_laws.proofs.DialectRecords.{records-are-the-dialects}
use Rattle.bibtex_laws.proofs.records.records_are_those_of_the_dialect.Goals as goal

pub returns : goal.returns
returns c = records-are-the-dialects
