use Rattle.std.proofs.Common.{◌≡◌, ◌≤◌, ◌-◌, ◌&&◌, true, drop, get_or, eqb, length}
use Rattle.bib_value.specs.Spacing.{neat}
use Rattle.bib_value.proofs.spacing.is_neat.Given as goal

abbrev pub invariant-bytes : goal.invariant-bytes
invariant-bytes l = record {
  begun : 1 ≤ l.n;
  within : l.n ≤ length l.text;
  neat : l.is_so_far && neat (eqb (get_or l.text (l.n - 1) 0) 32) (drop l.n l.text) ≡ neat true l.text;
}
