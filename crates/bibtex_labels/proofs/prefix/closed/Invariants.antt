use Rattle.std.proofs.Common.{◌≡◌, ◌++◌, replicate}
use Rattle.bib_spec.specs.Bytes.{close_brace}
use Rattle.bibtex_labels.proofs.prefix.closed.Given as goal

abbrev pub invariant-loop : goal.invariant-loop
invariant-loop l = l.text.items ≡ l.fn.text.items ++ replicate l.counter close_brace
