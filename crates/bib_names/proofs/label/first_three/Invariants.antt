use Rattle.bib_names.proofs.Words.{◌≡◌, ◌-◌, ◌++◌, take, flat_map, Text, first_three}
use Rattle.bib_names.proofs.label.first_three.Given as goal

abbrev pub invariant-loop : goal.invariant-loop
invariant-loop l = l.out.items ++ flat_map (λ (char : Text). char) (take (3 - l.counter) l.chars) ≡ first_three l.text
