use Rattle.bib_keys.proofs.Words.{◌≡◌, Text, entries_of, OfReading, AreParents, parts_along}
use Rattle.std.proofs.Common.{take}
use Rattle.bib_keys.proofs.label_bases.Parents.inherited.Given as goal

abbrev pub invariant-join : goal.invariant-join
invariant-join l = (file : Text) → AreParents file l.self → OfReading file (λ r. l.inherited ≡ parts_along (entries_of r) (take l.n-index l.self.line.items))
