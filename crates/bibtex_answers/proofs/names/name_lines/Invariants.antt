use Rattle.std.proofs.Common.{◌≡◌, drop, map}
use Rattle.bib_answers.specs.Names.{before_lines}
use Rattle.bibtex_answers.specs.Names.{name_lines}
use Rattle.bibtex_answers.proofs.names.name_lines.Given as goal

-- the lines so far with those of the names that are left
abbrev pub invariant-print : goal.invariant-print
invariant-print l =
    name_lines l.template (map (λ n. n.now) l.names) ≡ before_lines l.out.items (name_lines l.template (drop l.name-index (map (λ n. n.now) l.names)))
