use Rattle.bib_store.proofs.Words.{◌∙◌, sym, ap, Some, err_from_is_err_and, field_seen}
use Rattle.bib_store.proofs.RowTexts.{rows_start, rows_more, rows_over, rows_all}
use Rattle.bib_store.proofs.crossrefs.crossref_of.Goals as goal

pub rows-init : goal.rows-init
rows-init g c = rows_start c.args.fields (g.M.MacroTable.macros c.args.macros.now)

pub rows-preserved : goal.rows-preserved
rows-preserved g c =
    rows_more c.args.fields (g.M.MacroTable.macros c.args.macros.now) c.rows.found c.in_ok-found.found (field_seen c.in-Some.field) c.next.new.self c.rows.fields
    c.in_ok-found.ensures.found c.in_ok-found.ensures.short c.in-Some.ensures.steps c.rows.invariant

pub returns-in_err-found-clause-too_long : goal.returns-in_err-found-clause-too_long
returns-in_err-found-clause-too_long g c =
    let p = err_from_is_err_and c.from_residual.result c.from_residual.ensures.1 in
    rw (p.1, p.2) (λ n is.
    let over = c.in_err-found.ensures.too_long n is in
    λ before rows are fields.
    rows_over c.args.fields (g.M.MacroTable.macros c.args.macros.now) c.rows.found (field_seen c.in-Some.field) c.next.new.self c.rows.fields over.1 c.in-Some.ensures.steps c.rows.invariant before rows are fields
    ∙ ap Some (sym over.0))

pub returns-clause-text : goal.returns-clause-text
returns-clause-text g c before rows are fields =
    (rows_all c.args.fields (g.M.MacroTable.macros c.args.macros.now) c.rows.found c.rows.fields c.in_default.ensures.steps.0 c.rows.invariant before rows are fields).0

pub returns-clause-short : goal.returns-clause-short
returns-clause-short g c before rows are fields =
    (rows_all c.args.fields (g.M.MacroTable.macros c.args.macros.now) c.rows.found c.rows.fields c.in_default.ensures.steps.0 c.rows.invariant before rows are fields).1
