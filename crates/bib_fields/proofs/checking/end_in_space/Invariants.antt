use Rattle.std.proofs.Common.{◌≡◌, true, take}
use Rattle.std.specs.List.{list_all}
use Rattle.bib_spec.specs.Text.{is_space}
use Rattle.bib_fields.proofs.checking.end_in_space.Given as goal

abbrev pub invariant-rows : goal.invariant-rows
invariant-rows l = list_all (λ row. list_all is_space row.space) (take l.k l.rows) ≡ true
