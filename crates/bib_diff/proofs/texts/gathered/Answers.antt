use Rattle.std.proofs.Common.{List, subst}
use Rattle.bib_scan.specs.View.{Field, field_seen}
use Rattle.bib_definitions.specs.MacrosSeen.{macros_seen}
use Rattle.bib_diff.proofs.GatheredTexts.{IsGathering, gathering_start, gathering_more, gathering_all}
use Rattle.bib_diff.proofs.texts.gathered.Goals as goal

pub fields-init : goal.fields-init
fields-init c = gathering_start (macros_seen c.args.macros.now) c.args.fields c.new-texts.result c.requires c.new-texts.ensures

pub add-requires : goal.add-requires
add-requires c = (subst (λ (rest : List Field). IsGathering (macros_seen c.args.macros.now) c.args.fields rest c.fields.texts) c.in-Some.ensures.steps c.fields.invariant).names.0

pub fields-preserved : goal.fields-preserved
fields-preserved c = gathering_more (macros_seen c.args.macros.now) c.args.fields c.next.new.self (field_seen c.in-Some.field) c.fields.texts c.add.new.texts
    (subst (λ (rest : List Field). IsGathering (macros_seen c.args.macros.now) c.args.fields rest c.fields.texts) c.in-Some.ensures.steps c.fields.invariant)
    c.in_ok-add.ensures

pub returns : goal.returns
returns c = gathering_all (macros_seen c.args.macros.now) c.args.fields c.fields.texts
    (subst (λ (rest : List Field). IsGathering (macros_seen c.args.macros.now) c.args.fields rest c.fields.texts) c.in_default.ensures.steps.0 c.fields.invariant)
