use Rattle.bib_ris.proofs.Words.{◌≡◌, List, entries_of, OfReading}
use Rattle.bib_spec.specs.Records.{RecordField}
use Rattle.bib_store.specs.Readings.{IsEntryNumber}
use Rattle.bib_store.proofs.Inherited.{with_lineage, with_rest}
use Rattle.bib_ris.specs.Judging.{IsJudged}
use Rattle.bib_ris.proofs.judging.judge_inherited.Given as goal

abbrev pub invariant-along : goal.invariant-along
invariant-along g l =
    IsEntryNumber l.db l.heir
    × OfReading l.db (λ r. (all : List RecordField) → IsJudged l.kind_name l.key all l.initial.seen.items l.initial.lines.items
    → (so_far : List RecordField) × IsJudged l.kind_name l.key so_far l.seen.items l.lines.items
    × (with_rest (entries_of r) l.depth l.counter l.heir so_far ≡ with_lineage (entries_of r) l.depth l.n all))
