use Rattle.bib_store.proofs.Words.{◌∙◌, Some, None, sym, ap, field_text, field_seen}
use Rattle.bib_store.proofs.FirstCrossrefs.{ahead_start, ahead_more, ahead_found, ahead_none}
use Rattle.bib_store.proofs.crossrefs.first_crossref.Goals as goal

pub rows-init : goal.rows-init
rows-init g c m = ahead_start c.args.fields m

pub rows-preserved : goal.rows-preserved
rows-preserved g c m = ahead_more c.args.fields m (field_seen c.in-Some.field) c.next.new.self c.rows.fields (sym c.same_folded.ensures ∙ c.if-same_folded.false) c.in-Some.ensures.steps (c.rows.invariant m)

pub returns-clause-text : goal.returns-clause-text
returns-clause-text g c = let m = g.M.MacroTable.macros c.args.macros.now in ahead_none c.args.fields m c.rows.fields c.in_default.ensures.steps.0 (c.rows.invariant m)

pub returns-clause-settled : goal.returns-clause-settled
returns-clause-settled g c is = (None, λ before rows are fields m. ahead_none c.args.fields m c.rows.fields c.in_default.ensures.steps.0 (c.rows.invariant m) before rows are fields)

pub returns-then-same_folded-clause-text : goal.returns-then-same_folded-clause-text
returns-then-same_folded-clause-text g c =
    let m = g.M.MacroTable.macros c.args.macros.now in
    ahead_found c.args.fields m (field_seen c.in-Some.field) c.next.new.self c.rows.fields c.in_ok-text.text
    (sym c.same_folded.ensures ∙ c.if-same_folded.true) c.in_ok-text.ensures.text c.in-Some.ensures.steps (c.rows.invariant m)

pub returns-then-same_folded-clause-settled : goal.returns-then-same_folded-clause-settled
returns-then-same_folded-clause-settled g c is =
    let says = c.is_settled_value.ensures is in (
      Some (field_text says.0),
      λ before rows are fields m.
          ahead_found c.args.fields m (field_seen c.in-Some.field) c.next.new.self c.rows.fields (field_text says.0) (sym c.same_folded.ensures ∙ c.if-same_folded.true)
          (λ v good e. ap field_text (sym (says.1 v good e m))) c.in-Some.ensures.steps (c.rows.invariant m) before rows are fields,
    )
