use Rattle.std.proofs.Common.{◌∙◌, List, sym, refl, subst}
use Rattle.bib_scan.specs.View.{Field, field_seen}
use Rattle.bib_sayings.proofs.Tables.{IsTabling, tabling-twice, tabling-more}
use Rattle.bib_sayings.proofs.field_table.table_of.Goals as goal

pub returns-then-is_some : goal.returns-then-is_some
returns-then-is_some c =
    tabling-twice c.args.fields c.next.new.self c.fields.table (field_seen c.in-Some.field) _
    (subst (λ (l : List Field). IsTabling c.args.fields l c.fields.table) c.in-Some.ensures.steps c.fields.invariant)
    c.in_ok-insert.ensures.value (sym c.is_some.ensures ∙ c.if-is_some.true)

pub fields-preserved : goal.fields-preserved
fields-preserved c =
    tabling-more c.args.fields c.next.new.self c.fields.table c.insert.new.self (field_seen c.in-Some.field) c.in-Some.field.value _
    (subst (λ (l : List Field). IsTabling c.args.fields l c.fields.table) c.in-Some.ensures.steps c.fields.invariant)
    c.in_ok-insert.ensures.value (sym c.is_some.ensures ∙ c.if-is_some.false) refl c.in_ok-insert.ensures.ok
