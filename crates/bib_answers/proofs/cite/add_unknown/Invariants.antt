use Rattle.bib_answers.proofs.Words.{◌≡◌, ◌++◌, take, flat_map}
use Rattle.bib_answers.specs.Cite.{unknown_line}
use Rattle.bib_answers.proofs.cite.add_unknown.Given as goal

abbrev pub invariant-loop-place : goal.invariant-loop-place
invariant-loop-place l = l.out.items ≡ l.initial.out.items ++ flat_map (unknown_line l.keys) (take l.place-index l.places)
