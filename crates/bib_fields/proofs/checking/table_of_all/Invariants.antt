use Rattle.std.proofs.Common.{drop, map}
use Rattle.bib_scan.specs.View.{field_seen}
use Rattle.bib_sayings.proofs.Tables.{IsTabling}
use Rattle.bib_fields.proofs.checking.table_of_all.Given as goal

abbrev pub invariant-fields : goal.invariant-fields
invariant-fields l = IsTabling (map field_seen l.fields) (map field_seen (drop l.k l.fields)) l.table
