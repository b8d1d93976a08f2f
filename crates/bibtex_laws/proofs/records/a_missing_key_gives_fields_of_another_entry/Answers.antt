use Rattle.bibtex_laws.proofs.MissingKeys.{missing-keys-matter}
use Rattle.bibtex_laws.proofs.records.a_missing_key_gives_fields_of_another_entry.Goals as goal

pub returns : goal.returns
returns c = missing-keys-matter
