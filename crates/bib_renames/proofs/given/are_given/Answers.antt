use Rattle.bib_renames.specs.Renamed.{IsGiven}
use Rattle.bib_renames.proofs.Renamings.{all_more, all_taken}
use Rattle.bib_renames.proofs.given.are_given.Goals as goal

pub given-preserved : goal.given-preserved
given-preserved g c rb reads_b ro reads_o rt reads_t =
    all_more (IsGiven rb ro rt) c.args.given.now c.given.k c.index-given-k.result c.given-test.true c.index-given-k.is
    (c.is_given.ensures c.if-not-is_given.false rb reads_b ro reads_o rt reads_t) (c.given.invariant rb reads_b ro reads_o rt reads_t)

pub returns : goal.returns
returns g c yes' rb reads_b ro reads_o rt reads_t =
    all_taken (IsGiven rb ro rt) c.args.given.now c.given.k c.given-test.false (c.given.invariant rb reads_b ro reads_o rt reads_t)
