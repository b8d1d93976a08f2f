use Rattle.std.proofs.Common.{◌≡◌, map, take}
use Rattle.bib_script.proofs.steps.slices.Given as goal

abbrev pub invariant-word : goal.invariant-word
invariant-word l = map (λ w. w.now) l.slices.items ≡ take l.word-index l.words
