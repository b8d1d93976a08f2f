use Rattle.std.proofs.Common.{◌≡◌, take}
use Rattle.std.specs.List.{flat_map}
use Rattle.bib_hints.specs.Hints.{hint_line}
use Rattle.bib_hints.proofs.lines.laid_out.Given as goal

abbrev pub invariant-lines : goal.invariant-lines
invariant-lines l = l.text.items ≡ flat_map hint_line (take l.line-index l.lines)
