use Rattle.std.proofs.Common.{◌≡◌, ◌++◌, length}
use Rattle.bibtex_labels.proofs.CommandLemmas.{on}
use Rattle.bibtex_labels.proofs.purifying.push_commands.Given as goal

abbrev pub invariant-commands : goal.invariant-commands
invariant-commands l = l.out.items ++ on l.rest ≡ l.fn.out.items ++ on l.text

abbrev pub decreases-commands : goal.decreases-commands
decreases-commands l = length l.rest
