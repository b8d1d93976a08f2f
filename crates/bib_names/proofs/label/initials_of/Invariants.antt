use Rattle.bib_names.proofs.Words.{◌≡◌, ◌++◌, drop, map, flat_map, initials_template, print_of}
use Rattle.bib_names.proofs.label.initials_of.Given as goal

abbrev pub invariant-loop-name : goal.invariant-loop-name
invariant-loop-name l =
    l.out.items ++ flat_map (print_of initials_template) (map (λ n. n.now) (drop l.name-index l.names)) ≡ flat_map (print_of initials_template) (map (λ n. n.now) l.names)
