use Rattle.std.proofs.Common.{◌≡◌, ◌++◌, take}
use Rattle.std.specs.List.{flat_map}
use Rattle.bib_hints.specs.Hints.{visible}
use Rattle.bib_hints.proofs.lines.add_words.Given as goal

abbrev pub invariant-bytes : goal.invariant-bytes
invariant-bytes l = l.text.items ≡ l.initial.text.items ++ flat_map visible (take l.byte-index l.words)
