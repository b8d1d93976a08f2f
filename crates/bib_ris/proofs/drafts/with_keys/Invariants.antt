use Rattle.bib_ris.proofs.Words.{◌≡◌, ◌++◌, length, take, drop, reverse, with_keys}
use Rattle.bib_ris.proofs.drafts.with_keys.Given as goal

abbrev pub invariant-entries : goal.invariant-entries
invariant-entries l = record {
  given : take l.n l.entries.items ++ with_keys (reverse l.left.items) (drop l.n l.entries.items) ≡ with_keys l.fn.keys l.fn.entries.items;
  all : length l.entries.items ≡ length l.fn.entries.items;
}
