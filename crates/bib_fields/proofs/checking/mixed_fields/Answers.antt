use Rattle.std.proofs.Common.{subst}
use Rattle.bib_fields.specs.Fields.{IsMixedField}
use Rattle.bib_fields.proofs.Collected.{zip-more, zip-all}
use Rattle.bib_fields.proofs.checking.mixed_fields.Goals as goal

pub rows-preserved : goal.rows-preserved
rows-preserved c o t are_o are_t =
    zip-more (IsMixedField o t) c.rows.fields.items c.push.new.self.items c.args.rows.now c.rows.k c.in-Some.field c.index-rows-k.result c.rows-test.true c.in_ok-push.ensures.items
    (subst (IsMixedField o t c.in-Some.field) c.index-rows-k.is (c.in-Some.ensures o t are_o are_t)) (c.rows.invariant o t are_o are_t)

pub returns : goal.returns
returns c o t are_o are_t = zip-all (IsMixedField o t) c.rows.fields.items c.args.rows.now c.rows.k c.rows-test.false (c.rows.invariant o t are_o are_t)
