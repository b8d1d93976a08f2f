use Rattle.std.proofs.Common.{length}
use Rattle.bib_sayings.proofs.Tables.{IsTabling}
use Rattle.bib_sayings.proofs.field_table.table_of.Given as goal

abbrev pub invariant-fields : goal.invariant-fields
invariant-fields l = IsTabling l.initial.rest l.rest l.table

abbrev pub decreases-fields : goal.decreases-fields
decreases-fields l = length l.rest
