use Rattle.std.proofs.Common.{◌∙◌, subst}
use Rattle.bib_scan.specs.View.{field_seen}
use Rattle.bib_definitions.specs.MacrosSeen.{macros_seen}
use Rattle.bib_sayings.proofs.Agreeing.{IsAgreedTo, agreed-next, agreed-not}
use Rattle.bib_sayings.proofs.entries.tables_agree.Goals as goal

pub returns-then-not-branch : goal.returns-then-not-branch
returns-then-not-branch c =
    agreed-not (macros_seen c.args.macros_a.now) (macros_seen c.args.macros_b.now) c.args.a.now c.args.b.now c.args.fields c.next.new.self (field_seen c.in-Some.field)
    c.copied-one.result c.copied-other.result c.in_ok-values_agree.field-0 (c.copied-one.ensures ∙ c.get.ensures) (c.copied-other.ensures ∙ c.get-in-Some.ensures) c.in_ok-values_agree.ensures c.if-not-branch.true
    (subst (IsAgreedTo (macros_seen c.args.macros_a.now) (macros_seen c.args.macros_b.now) c.args.a.now c.args.b.now c.args.fields) c.in-Some.ensures.steps c.fields.invariant)

pub fields-preserved : goal.fields-preserved
fields-preserved c =
    agreed-next (macros_seen c.args.macros_a.now) (macros_seen c.args.macros_b.now) c.args.a.now c.args.b.now c.args.fields c.next.new.self (field_seen c.in-Some.field)
    c.copied-one.result c.copied-other.result c.in_ok-values_agree.field-0 (c.copied-one.ensures ∙ c.get.ensures) (c.copied-other.ensures ∙ c.get-in-Some.ensures) c.in_ok-values_agree.ensures c.if-not-branch.false
    (subst (IsAgreedTo (macros_seen c.args.macros_a.now) (macros_seen c.args.macros_b.now) c.args.a.now c.args.b.now c.args.fields) c.in-Some.ensures.steps c.fields.invariant)
