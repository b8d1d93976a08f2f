use Rattle.std.proofs.Common.{◌≡◌, List, ◌++◌, length}
use Rattle.bib_scan.specs.View.{Field}
use Rattle.bib_sayings.specs.FieldTables.{IsTableOf}
use Rattle.bib_uses.proofs.sources.values_of.Given as goal

abbrev pub invariant-fields : goal.invariant-fields
invariant-fields l = (done : List Field) × (l.initial.rest ≡ done ++ l.rest) × IsTableOf l.table done

abbrev pub decreases-fields : goal.decreases-fields
decreases-fields l = length l.rest
