use Rattle.ris_format.proofs.Words.{◌≡◌, take, flat_map}
use Rattle.ris_format.specs.Escapes.{escape_of}
use Rattle.ris_format.proofs.escaping.escaped.Given as goal

abbrev pub invariant-bytes : goal.invariant-bytes
invariant-bytes l = l.out.items ≡ flat_map escape_of (take l.byte-index l.text)
