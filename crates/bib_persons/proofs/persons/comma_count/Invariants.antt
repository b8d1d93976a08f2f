use Rattle.std.proofs.Common.{◌≡◌, ◌+◌, length}
use Rattle.std.specs.List.{count_by}
use Rattle.bib_persons.specs.Persons.{is_comma_byte}
use Rattle.bib_persons.proofs.persons.comma_count.Given as goal

abbrev pub invariant-runs : goal.invariant-runs
invariant-runs l = l.count + count_by is_comma_byte l.rest ≡ count_by is_comma_byte l.text

abbrev pub decreases-runs : goal.decreases-runs
decreases-runs l = length l.rest
