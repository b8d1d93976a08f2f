use Rattle.bib_order.proofs.Words.{take, rules, subst, ◌∙◌, sym, IsDistinct, is_among, before}
use Rattle.std.proofs.lemmas.List.Sorted.{IsPartitionPoint-from_clause}
use Rattle.bib_order.proofs.Keeping.{kept_distinct}
use Rattle.bib_order.proofs.Counting.{counted, counted_last, counted_parts, counted_point}
use Rattle.bib_order.proofs.order.Order.count_before.Goals as goal

pub returns-in-Some-clause-count : goal.returns-in-Some-clause-count
returns-in-Some-clause-count c test is =
    let distinct = subst IsDistinct c.self.view_is (kept_distinct c.self.inside.ids c.self.invariant) in
    let all = counted test c.args.self.now c.args.ids.now c.args.n distinct is in
    counted_last c.args.self.now c.args.ids.now c.args.n (before test c.args.self.now c.args.n) c.in-Some.last.now all (sym c.in-Some.ensures.value) (sym c.stands_before.ensures ∙ c.if-stands_before.true)

pub returns-in_default-clause-count : goal.returns-in_default-clause-count
returns-in_default-clause-count c test is =
    let distinct = subst IsDistinct c.self.view_is (kept_distinct c.self.inside.ids c.self.invariant) in
    let all = counted test c.args.self.now c.args.ids.now c.args.n distinct is in
    let point = IsPartitionPoint-from_clause (is_among (take c.args.n c.args.self.now)) _ _ c.partition_point.ensures.partitioned (counted_parts c.args.self.now c.args.ids.now c.args.n (before test c.args.self.now c.args.n) all) (λ a r q k. search rules) in
    counted_point c.args.self.now c.args.ids.now c.args.n (before test c.args.self.now c.args.n) c.partition_point.result all c.partition_point.ensures.bound point
