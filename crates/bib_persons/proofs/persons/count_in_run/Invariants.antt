use Rattle.std.proofs.Common.{◌≡◌, ◌≤◌, take}
use Rattle.std.specs.List.{count_by}
use Rattle.bib_persons.specs.Persons.{is_comma_byte}
use Rattle.bib_persons.proofs.persons.count_in_run.Given as goal

abbrev pub invariant-bytes : goal.invariant-bytes
invariant-bytes l = (l.count ≡ count_by is_comma_byte (take l.byte-index l.run)) × (l.count ≤ l.byte-index)
