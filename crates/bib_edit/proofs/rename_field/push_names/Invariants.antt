use Rattle.bib_edit.proofs.Words.{◌≡◌, ◌++◌, length, tokens_seen}
use Rattle.bib_edit.specs.RenamedFields.{AreNamesPlaced, names_at}
use Rattle.bib_edit.proofs.rename_field.push_names.Given as goal

abbrev pub invariant-fields : goal.invariant-fields
invariant-fields l =
    AreNamesPlaced l.start l.rest
    × (tokens_seen l.names.items ++ names_at l.start l.from l.rest ≡ tokens_seen l.initial.names.items ++ names_at l.start l.from l.initial.rest)

abbrev pub decreases-fields : goal.decreases-fields
decreases-fields l = length l.rest
