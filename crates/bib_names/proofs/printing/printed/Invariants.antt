use Rattle.bib_names.proofs.Words.{◌≡◌, ◌++◌, drop, flat_map, printed_with_trail, printed}
use Rattle.bib_names.proofs.printing.printed.Given as goal

-- the output so far with the groups that are left
abbrev pub invariant-loop-group : goal.invariant-loop-group
invariant-loop-group l =
    l.out.items ++ flat_map (printed_with_trail l.name) (drop l.group-index l.template.groups) ≡ printed l.template l.name
