use Rattle.std.proofs.Common.{is_some, not, refl, sym, ◌∙◌, ap}
use Rattle.bib_scan.specs.View.{field_seen}
use Rattle.bib_uses.proofs.FirstValues.{table-more, table-same, absent, present}
use Rattle.bib_uses.proofs.sources.add_value.Goals as goal

pub returns-in_ok-insert : goal.returns-in_ok-insert
returns-in_ok-insert c fields is =
    table-more fields (field_seen c.args.field) c.args.table.now c.insert.new.self c.args.field.value (sym c.get.ensures ∙ absent c.get.result (c.is_none.ensures ∙ ap not c.if-is_none.true)) refl c.in_ok-insert.ensures.ok is

pub returns-else-is_none : goal.returns-else-is_none
returns-else-is_none c fields is = table-same fields (field_seen c.args.field) c.args.table.now (ap is_some (sym c.get.ensures) ∙ present c.get.result c.if-is_none.ensures) is
