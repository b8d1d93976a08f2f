use Rattle.std.proofs.Common.{◌≡◌, drop, map}
use Rattle.bibtex_names.specs.NamesInLists.{parts_in}
use Rattle.bibtex_labels.specs.Fields.{map_all}
use Rattle.bibtex_labels.proofs.AllLemmas.{after}
use Rattle.bibtex_labels.proofs.names.all_parts.Given as goal

abbrev pub invariant-names : goal.invariant-names
invariant-names l = map_all parts_in (map (λ n. n.now) l.names) ≡ after parts_in l.parts.items (map_all parts_in (drop l.name-index (map (λ n. n.now) l.names)))
