use Rattle.bib_diff.proofs.LedAlready.{led_already, differ_so}
use Rattle.bib_diff.proofs.leading.lead.Goals as goal

pub returns-in-Ok-None-clause-leads : goal.returns-in-Ok-None-clause-leads
returns-in-Ok-None-clause-leads c =
    led_already c.args.old.now c.args.new.now c.database.result.now c.args.session c.empty.result c.in-Ok-None.field-0 c.requires c.database.ensures c.empty.ensures
    c.in-Ok-None.field-0-is c.in-Ok-None.ensures.agree

pub sought-requires : goal.sought-requires
sought-requires c =
    differ_so c.args.old.now c.args.new.now c.database.result.now c.args.session c.in-Ok-Some.field-0 c.in-Ok-Some.field-0-0 c.requires c.database.ensures
    c.in-Ok-Some.field-0-is c.in-Ok-Some.ensures.differ
