use Rattle.bib_answers.proofs.Words.{OfReading, entries_of, take}
use Rattle.bib_answers.specs.Lint.{citations}
use Rattle.bib_answers.specs.Told.{HaveTold}
use Rattle.bib_answers.proofs.missing_keys.add_missing_keys.Given as goal

abbrev pub invariant-files : goal.invariant-files
invariant-files l = OfReading l.db (λ r. HaveTold (entries_of r) l.initial.out.items (citations (take l.file-index l.files)) l.out.items l.told)
