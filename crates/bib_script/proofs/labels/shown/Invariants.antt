use Rattle.std.proofs.Common.{◌≡◌, map, take}
use Rattle.bib_script.specs.Words.{shown_byte}
use Rattle.bib_script.proofs.labels.shown.Given as goal

abbrev pub invariant-byte : goal.invariant-byte
invariant-byte l = l.shown.items ≡ map shown_byte (take l.b-index l.text)
