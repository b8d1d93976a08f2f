use Rattle.bib_renames.specs.Renamed.{IsKeyConflict}
use Rattle.bib_renames.proofs.Renamings.{all_more, all_taken}
use Rattle.bib_renames.proofs.conflict.are_key_conflicts.Goals as goal

pub conflicts-preserved : goal.conflicts-preserved
conflicts-preserved g c rb reads_b ro reads_o rt reads_t =
    all_more (IsKeyConflict rb ro rt) c.args.conflicts.now c.conflicts.k c.index-conflicts-k.result c.conflicts-test.true c.index-conflicts-k.is
    (c.is_key_conflict.ensures c.if-not-is_key_conflict.false rb reads_b ro reads_o rt reads_t) (c.conflicts.invariant rb reads_b ro reads_o rt reads_t)

pub returns : goal.returns
returns g c yes' rb reads_b ro reads_o rt reads_t =
    all_taken (IsKeyConflict rb ro rt) c.args.conflicts.now c.conflicts.k c.conflicts-test.false (c.conflicts.invariant rb reads_b ro reads_o rt reads_t)
