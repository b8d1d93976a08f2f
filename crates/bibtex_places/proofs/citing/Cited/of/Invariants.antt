use Rattle.std.proofs.Common.{◌≡◌, take}
use Rattle.bibtex_spec.specs.Places.{cited_keys}
use Rattle.bibtex_places.proofs.citing.Cited.of.Given as goal

abbrev pub invariant-cite : goal.invariant-cite
invariant-cite l = l.cited ≡ cited_keys (take l.key-index l.keys)
