use Rattle.bib_answers.proofs.Words.{OfReading, List, Text, ◌++◌, map, entries_of, take}
use Rattle.bib_answers.specs.Lint.{Citation}
use Rattle.bib_answers.specs.Told.{HaveTold}
use Rattle.bib_answers.proofs.missing_keys.add_missing_in.Given as goal

abbrev pub invariant-keys : goal.invariant-keys
invariant-keys l = OfReading l.db (λ r. (start : Text) (before : List Citation) → HaveTold (entries_of r) start before l.initial.out.items l.initial.told
    → HaveTold (entries_of r) start (before ++ map (λ cited. (l.file, cited)) (take l.cited-index l.keys)) l.out.items l.told)
