use Rattle.std.proofs.Common.{◌≡◌, ◌≤◌, ◌++◌, drop}
use Rattle.bibtex_labels.specs.Order.{lettered, lettered_from}
use Rattle.bibtex_labels.proofs.ordering.lettered.Given as goal

abbrev pub invariant-labels : goal.invariant-labels
invariant-labels l = record {
  labels : l.labels.items ++ lettered_from l.number (drop l.n l.entries) ≡ lettered l.entries;
  small : l.number ≤ l.n;
}
