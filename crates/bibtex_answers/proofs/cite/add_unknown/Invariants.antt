use Rattle.std.proofs.Common.{◌≡◌, ◌++◌, take}
use Rattle.std.specs.List.{flat_map}
use Rattle.bib_answers.specs.Cite.{unknown_line}
use Rattle.bibtex_answers.proofs.cite.add_unknown.Given as goal

abbrev pub invariant-unknown : goal.invariant-unknown
invariant-unknown l = l.out.items ≡ l.initial.out.items ++ flat_map (unknown_line l.keys) (take l.place-index l.places)
