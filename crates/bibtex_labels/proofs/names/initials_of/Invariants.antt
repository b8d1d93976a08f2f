use Rattle.std.proofs.Common.{◌≡◌, ◌++◌, drop}
use Rattle.std.specs.List.{flat_map}
use Rattle.bibtex_names.specs.Printing.{printed}
use Rattle.bibtex_labels.specs.Label.{initials_template}
use Rattle.bibtex_labels.proofs.names.initials_of.Given as goal

abbrev pub invariant-names : goal.invariant-names
invariant-names l = l.out.items ++ flat_map (printed initials_template) (drop l.name-index l.names) ≡ flat_map (printed initials_template) l.names
