use Rattle.ris_format.proofs.Words.{◌≡◌, take}
use Rattle.std.proofs.Common.{map}
use Rattle.ris_format.specs.Escapes.{escaped_line}
use Rattle.ris_format.proofs.escaping.all_escaped.Given as goal

abbrev pub invariant-lines : goal.invariant-lines
invariant-lines l = l.out.items ≡ map escaped_line (take l.line-index l.lines)
