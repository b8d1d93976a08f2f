use Rattle.std.proofs.Common.{◌≡◌, ◌++◌, drop, filter}
use Rattle.bibtex_labels.specs.Purified.{is_alphanumeric}
use Rattle.bibtex_labels.proofs.purifying.push_alphanumeric.Given as goal

abbrev pub invariant-letters : goal.invariant-letters
invariant-letters l = l.out.items ++ filter is_alphanumeric (drop l.byte-index l.text) ≡ l.fn.out.items ++ filter is_alphanumeric l.text
