use Rattle.bib_numbers.proofs.Words.{◌≡◌, ◌≤◌, ◌∙◌, ℕ, List, map, length, rules, sym, subst, ap, arith, IsPartitionedBy, IsPartitionPoint, length-map, IsPartitionPoint-from_clause, Ascend, rank_in, plus}
use Rattle.std.proofs.Common.{true, false, nat_lt}
use Rattle.bib_numbers.proofs.Moves.{parted_shown, point_shown}
use Rattle.bib_numbers.proofs.MovedNumbers.{parted, parted_at, front_ends, rank_of}
use Rattle.bib_numbers.proofs.leaf.Leaf.count_below.Goals as goal

pub returns-clause-counted : goal.returns-clause-counted
returns-clause-counted c ascend =
    let list : List ℕ = c.self.inside.list.items in
    let show = plus c.self.inside.base in
    let test = λ (m : ℕ). nat_lt m c.args.n in
    let k = c.partition_point.result in
    let p = parted_at c.args.n (map show list) (subst Ascend (sym c.self.view_is) ascend) in
    let shown : IsPartitionedBy (λ m. test (show m)) c.deref.result.now
    = subst (IsPartitionedBy (λ m. test (show m))) (sym c.deref.ensures.value) (parted_shown test show list (parted c.args.n p.front p.rest (map show list) p.are)) in
    let point = IsPartitionPoint-from_clause (λ (m : ℕ). test (show m)) _ _ c.partition_point.ensures.partitioned shown (λ a r q k. search rules) in
    let within : k ≤ length list = subst (λ (l : List ℕ). k ≤ length l) c.deref.ensures.value c.partition_point.ensures.bound in
    let here = point_shown test show list k within (subst (λ (l : List ℕ). IsPartitionPoint (λ m. test (show m) ≡ true) (λ m. test (show m) ≡ false) l k) c.deref.ensures.value point) in
    front_ends c.args.n k p.front p.rest (map show list) p.are (omega (arith, within, length-map list show)) here
    ∙ sym (rank_of c.args.n p.front p.rest (map show list) p.are)
    ∙ ap (rank_in c.args.n) c.self.view_is
