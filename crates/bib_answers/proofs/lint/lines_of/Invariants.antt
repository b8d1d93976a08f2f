use Rattle.bib_answers.specs.LintedThrough.{IsLintedBefore}
use Rattle.bib_answers.proofs.lint.lines_of.Given as goal

abbrev pub invariant-items : goal.invariant-items
invariant-items l = IsLintedBefore l.db l.initial.found.lines.ignored l.initial.found.lines.names l.initial.found.lines.files l.n l.found
