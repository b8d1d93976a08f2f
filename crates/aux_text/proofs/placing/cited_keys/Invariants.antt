use Rattle.std.proofs.Common.{◌≡◌, ◌++◌, ◌+◌, map, drop}
use Rattle.aux_text.specs.Placing.{keys_in_lines}
use Rattle.aux_text.proofs.placing.cited_keys.Given as goal

abbrev pub invariant-lines : goal.invariant-lines
invariant-lines l = l.keys.items ++ keys_in_lines (l.n + 1) (map (λ line. line.now) (drop l.n l.lines.items)) ≡ keys_in_lines 1 (map (λ line. line.now) l.lines.items)
