use Rattle.bib_scan.specs.View.{field_seen}
use Rattle.bib_fields.proofs.Collected.{copied-more}
use Rattle.bib_fields.proofs.version.all_fields.Goals as goal

pub fields-preserved : goal.fields-preserved
fields-preserved c =
    copied-more field_seen c.fields.all.items c.push.new.self.items c.in-Some.field c.fields.rest c.next.new.self c.args.fields c.in_ok-push.ensures.items c.in-Some.ensures.steps c.fields.invariant
