use Rattle.std.proofs.Common.{◌+◌, drop, map, sym, refl, ◌∙◌}
use Rattle.bib_scan.specs.View.{field_seen}
use Rattle.bib_sayings.proofs.Tables.{tabling-more}
use Rattle.bib_fields.proofs.RowFields.{next-field, tabled}
use Rattle.bib_fields.proofs.checking.table_of_all.Goals as goal

pub fields-preserved : goal.fields-preserved
fields-preserved c =
    tabling-more (map field_seen c.args.fields.now) (map field_seen (drop (c.fields.k + 1) c.args.fields.now)) c.fields.table c.insert.new.self _ _ _
    (next-field (map field_seen c.args.fields.now) c.args.fields.now c.fields.k _ c.fields.table c.fields-test.true c.fields.invariant)
    c.in_ok-insert.ensures.value (sym c.is_some.ensures ∙ c.if-is_some.false) refl c.in_ok-insert.ensures.ok

pub returns : goal.returns
returns c = tabled c.args.fields.now c.fields.k c.fields.table c.fields-test.false c.fields.invariant
