use Rattle.std.proofs.Common.{◌≡◌, ◌++◌, ◌∷◌, take}
use Rattle.std.specs.List.{flat_map}
use Rattle.bib_spec.specs.Bytes.{space}
use Rattle.bib_script.proofs.labels.spaced.Given as goal

abbrev pub invariant-word : goal.invariant-word
invariant-word l = l.text.items ≡ l.initial.text.items ++ flat_map (λ next. space ∷ next) (take l.word-index l.others)
