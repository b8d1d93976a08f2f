use Rattle.bib_store.proofs.Words.{refl}
use Rattle.bib_store.proofs.tables.Tables.prepare.Goals as goal

pub returns : goal.returns
returns c = record {
  len = refl;
  tables = λ items are. record { entries = are.entries; preambles = are.preambles; named = c.prepare.ensures _ _ are.named; definitions = are.definitions; bounds = are.bounds };
}
