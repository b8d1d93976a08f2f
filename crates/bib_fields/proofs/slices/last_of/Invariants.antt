use Rattle.std.proofs.Common.{◌≡◌, drop, length}
use Rattle.bib_fields.specs.Slices.{last_value}
use Rattle.bib_fields.proofs.slices.last_of.Given as goal

abbrev pub invariant-fields : goal.invariant-fields
invariant-fields l = last_value (l.place, l.len) (drop l.k l.fields) ≡ last_value (l.item.key_at, length l.item.key) l.fields
