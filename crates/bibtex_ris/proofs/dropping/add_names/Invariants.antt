use Rattle.std.proofs.Common.{◌≡◌, ◌++◌, take}
use Rattle.std.specs.List.{flat_map}
use Rattle.bib_ris.specs.Dropped.{dropped_line}
use Rattle.bibtex_ris.proofs.dropping.add_names.Given as goal

abbrev pub invariant-names : goal.invariant-names
invariant-names l = l.text.items ≡ l.initial.text.items ++ flat_map (dropped_line l.key) (take l.name-index l.names)
