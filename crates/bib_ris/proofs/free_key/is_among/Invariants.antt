use Rattle.std.proofs.Common.{◌≡◌, false, take}
use Rattle.std.specs.List.{list_any}
use Rattle.bib_spec.specs.Text.{same}
use Rattle.bib_ris.proofs.free_key.is_among.Given as goal

abbrev pub invariant-ids : goal.invariant-ids
invariant-ids l = list_any (same l.key) (take l.id-index l.ids) ≡ false
