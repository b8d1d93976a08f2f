use Rattle.bib_definitions.proofs.Words.{nat_lt}
use Rattle.std.proofs.Common.{rules}
use Rattle.std.proofs.lemmas.List.Sorted.{IsPartitionedBy-ltb, IsPartitionPoint-from_clause}
use Rattle.bib_definitions.proofs.held.count_below.Goals as goal

pub returns-clause-point : goal.returns-clause-point
returns-clause-point c = IsPartitionPoint-from_clause (λ d. nat_lt d.label c.args.label) _ _ c.partition_point.ensures.partitioned (IsPartitionedBy-ltb (λ d. d.label) _ c.args.label c.requires) (λ a r q k. search rules)
