use Rattle.bib_names.proofs.Words.{◌≡◌, drop}
use Rattle.bibtex_names.specs.Printing.{with_groups}
use Rattle.bibtex_names.proofs.printing.Print.push_groups.Given as goal

abbrev pub invariant-loop-group : goal.invariant-loop-group
invariant-loop-group l = with_groups l.name l.self (drop l.group-index l.groups) ≡ with_groups l.name l.initial.self l.groups
