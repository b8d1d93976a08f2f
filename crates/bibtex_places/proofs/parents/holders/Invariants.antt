use Rattle.std.proofs.Common.{◌≡◌, take, map, filter_map}
use Rattle.bibtex_spec.specs.Listed.{holder}
use Rattle.bibtex_places.specs.Seen.{seen}
use Rattle.bibtex_places.proofs.parents.holders.Given as goal

abbrev pub invariant-holders : goal.invariant-holders
invariant-holders l = l.held.items ≡ filter_map (holder (map seen l.places)) (take l.i-index l.run)
