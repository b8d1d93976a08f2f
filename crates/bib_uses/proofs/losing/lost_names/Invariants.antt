use Rattle.std.proofs.Common.{◌≡◌, map, take}
use Rattle.bib_spec.specs.Text.{Text}
use Rattle.bib_spec.specs.Reading.{Reading}
use Rattle.bib_uses.specs.Lost.{is_lost}
use Rattle.bib_uses.specs.Seen.{use_seen, AreDefined, IsSourceOf, AreTold}
use Rattle.bib_uses.proofs.TimesTold.{told}
use Rattle.bib_uses.proofs.losing.lost_names.Given as goal

abbrev pub invariant-uses : goal.invariant-uses
invariant-uses l =
    AreTold l.told l.names.items
    × ((ro rt rm : Reading) (key : Text) → IsSourceOf ro key l.ours → IsSourceOf rt key l.theirs → AreDefined rm.items l.here → l.names.items ≡ told (is_lost ro rt rm key l.n) (take l.k (map use_seen l.uses)))
