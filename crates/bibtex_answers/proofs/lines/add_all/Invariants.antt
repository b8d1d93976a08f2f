use Rattle.std.proofs.Common.{◌≡◌, ◌++◌, take}
use Rattle.std.specs.List.{flat_map}
use Rattle.bibtex_answers.proofs.lines.add_all.Given as goal

abbrev pub invariant-texts : goal.invariant-texts
invariant-texts l = l.out.items ≡ l.initial.out.items ++ flat_map (λ text. text.now) (take l.text-index l.texts)
