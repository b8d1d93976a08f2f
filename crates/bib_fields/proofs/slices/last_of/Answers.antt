use Rattle.std.proofs.Common.{length}
use Rattle.bib_fields.proofs.Writings.{last-more, last-all}
use Rattle.bib_fields.proofs.slices.last_of.Goals as goal

pub fields-preserved : goal.fields-preserved
fields-preserved c = last-more (c.args.item.now.key_at, length c.args.item.now.key) (c.fields.place, c.fields.len) c.args.fields.now c.fields.k _ c.fields-test.true c.fields.invariant

pub returns : goal.returns
returns c = last-all (c.args.item.now.key_at, length c.args.item.now.key) (c.fields.place, c.fields.len) c.args.fields.now c.fields.k c.fields-test.false c.fields.invariant
