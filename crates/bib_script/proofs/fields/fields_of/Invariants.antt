use Rattle.std.proofs.Common.{◌≡◌, ◌++◌, length, map, option_map}
use Rattle.bib_script.specs.Script.{fields_of}
use Rattle.bib_script.proofs.fields.fields_of.Given as goal

abbrev pub invariant-pair : goal.invariant-pair
invariant-pair l = option_map (λ others. l.fields.items ++ others) (fields_of (map (λ w. w.now) l.rest)) ≡ fields_of (map (λ w. w.now) l.fn.words)

abbrev pub decreases-pair : goal.decreases-pair
decreases-pair l = length l.rest
