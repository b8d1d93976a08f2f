use Rattle.bib_items.proofs.PartMarks.{keeps-trans, fields-more, fields-all}
use Rattle.bib_items.proofs.marking.Marks.add_fields.Goals as goal

pub fields-preserved : goal.fields-preserved
fields-preserved c = (
  keeps-trans c.args.self.now c.fields.self c.add_value.new.self c.fields.invariant.0 c.add_value.ensures.kept,
  fields-more c.args.fields c.fields.rest c.next.new.self _ c.fields.self c.add_value.new.self c.in-Some.ensures.steps c.add_value.ensures.kept c.in_ok-add_value.ensures.added c.fields.invariant.1,
)

pub returns-clause-added : goal.returns-clause-added
returns-clause-added c = fields-all c.args.fields c.fields.rest c.fields.self c.in_default.ensures.steps.0 c.fields.invariant.1
