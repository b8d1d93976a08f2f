use Rattle.std.proofs.Common.{List}
use Rattle.bib_spec.specs.Records.{entries_of}
use Rattle.bib_store.specs.Readings.{OfReading}
use Rattle.bibtex_spec.specs.Listed.{ListedRecord}
use Rattle.bibtex_answers.specs.Entries.{HaveRecords}
use Rattle.bibtex_answers.proofs.JsonLines.{AreTold}
use Rattle.bibtex_answers.proofs.json.lines_of.Given as goal

abbrev pub invariant-entries : goal.invariant-entries
invariant-entries l = OfReading l.db (λ r. (records : List ListedRecord) → HaveRecords (entries_of r) l.list records → AreTold (entries_of r) l.list l.entry-index l.lines.items)
