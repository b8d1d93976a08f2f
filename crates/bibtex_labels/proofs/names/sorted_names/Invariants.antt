use Rattle.std.proofs.Common.{◌≡◌, ◌++◌, drop}
use Rattle.bibtex_labels.proofs.NameLemmas.{front_names}
use Rattle.bibtex_labels.proofs.names.sorted_names.Given as goal

abbrev pub invariant-names : goal.invariant-names
invariant-names l = l.out.items ++ front_names (drop l.name-index l.front) ≡ front_names l.front
