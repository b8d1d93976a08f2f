use Rattle.std.proofs.Common.{◌≡◌, ◌++◌, map, drop}
use Rattle.aux_text.specs.Placing.{first_column, keys_from}
use Rattle.aux_text.proofs.placing.add_keys_from.Given as goal

abbrev pub invariant-parts : goal.invariant-parts
invariant-parts l =
    l.keys.items ++ keys_from l.line l.column (map (λ part. part.now) (drop l.part-index l.part-items))
    ≡ l.initial.keys.items ++ keys_from l.line first_column (map (λ part. part.now) l.part-items)
