use Rattle.std.proofs.Common.{◌≡◌, ◌++◌, length, map}
use Rattle.bib_scan.specs.View.{field_seen}
use Rattle.bib_fields.proofs.version.all_fields.Given as goal

abbrev pub invariant-fields : goal.invariant-fields
invariant-fields l = map field_seen l.all.items ++ l.rest ≡ l.initial.rest

abbrev pub decreases-fields : goal.decreases-fields
decreases-fields l = length l.rest
