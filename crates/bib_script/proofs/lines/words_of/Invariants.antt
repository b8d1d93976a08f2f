use Rattle.std.proofs.Common.{◌≡◌, ◌++◌, length, map}
use Rattle.bib_spec.specs.Bytes.{tab}
use Rattle.bib_script.specs.Parting.{parted}
use Rattle.bib_script.proofs.lines.words_of.Given as goal

abbrev pub invariant-part : goal.invariant-part
invariant-part l = map (λ w. w.now) l.words.items ++ parted tab l.rest ≡ parted tab l.fn.line

abbrev pub decreases-part : goal.decreases-part
decreases-part l = length l.rest
