use Rattle.ris_format.proofs.Words.{◌≡◌, ◌++◌, take, drop, flat_map, list_any, line, is_broken, written_name}
use Rattle.std.proofs.Common.{map}
use Rattle.ris_format.proofs.people.push_names.Given as goal

abbrev pub invariant-names : goal.invariant-names
invariant-names g l = record {
  kept : take l.before l.lines.items ≡ l.initial.lines.items;
  broken : list_any is_broken (map (λ n. n.now) (drop l.name-index l.names)) ≡ list_any is_broken (map (λ n. n.now) l.names);
  told : l.lines.items ++ flat_map g.T.Kept.kept (map (line l.tag) (flat_map written_name (map (λ n. n.now) (drop l.name-index l.names)))) ≡ l.initial.lines.items ++ flat_map g.T.Kept.kept (map (line l.tag) (flat_map written_name (map (λ n. n.now) l.names)));
}
