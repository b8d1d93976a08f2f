use Rattle.std.proofs.Common.{nat_lt, rules}
use Rattle.std.proofs.lemmas.List.Sorted.{IsPartitionedBy-ltb, IsPartitionPoint-from_clause}
use Rattle.bib_uses.proofs.DefinedNumbers.{passed-point}
use Rattle.bib_uses.proofs.defined.count_below.Goals as goal

pub returns : goal.returns
returns c rise =
    passed-point c.args.n c.args.numbers.now c.partition_point.result c.partition_point.ensures.bound
    (IsPartitionPoint-from_clause (λ m. nat_lt m c.args.n) _ _ c.partition_point.ensures.partitioned (IsPartitionedBy-ltb (λ m. m) _ c.args.n rise) (λ a r q k. search rules))
