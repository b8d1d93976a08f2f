use Rattle.std.proofs.Common.{ℕ, ◌<◌}
use Rattle.bib_diff.specs.Agreeing.{SameAt}
use Rattle.bib_diff.proofs.agreeing.first_difference.Given as goal

abbrev pub invariant-entries : goal.invariant-entries
invariant-entries l = (k : ℕ) → k < l.n → SameAt k l.old l.new
