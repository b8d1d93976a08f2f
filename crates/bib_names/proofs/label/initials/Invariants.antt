use Rattle.bib_names.proofs.Words.{◌≡◌, ◌++◌, drop, flat_map, initial}
use Rattle.bib_names.proofs.label.initials.Given as goal

-- the initials so far with those of the words that are left
abbrev pub invariant-loop-word : goal.invariant-loop-word
invariant-loop-word l = l.out.items ++ flat_map (λ w. initial w.text) (drop l.word-index l.words) ≡ flat_map (λ w. initial w.text) l.words
