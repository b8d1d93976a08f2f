use Rattle.bib_store.proofs.Words.{◌∙◌, Some, None, sym, ap, field_text, field_seen}
use Rattle.bib_store.proofs.FirstCrossrefs.{ahead_start, ahead_more, ahead_found, ahead_none}
use Rattle.bib_store.proofs.bounds.are_settled.Goals as goal

pub rows-init : goal.rows-init
rows-init c m = ahead_start c.args.fields m

pub rows-preserved : goal.rows-preserved
rows-preserved c m = ahead_more c.args.fields m (field_seen c.in-Some.field) c.next.new.self c.rows.fields (sym c.same_folded.ensures ∙ c.if-same_folded.false) c.in-Some.ensures.steps (c.rows.invariant m)

pub returns : goal.returns
returns c is = (None, λ before rows are fields m. ahead_none c.args.fields m c.rows.fields c.in_default.ensures.steps.0 (c.rows.invariant m) before rows are fields)

pub returns-then-same_folded : goal.returns-then-same_folded
returns-then-same_folded c is =
    let says = c.is_settled_value.ensures is in (
      Some (field_text says.0),
      λ before rows are fields m.
          ahead_found c.args.fields m (field_seen c.in-Some.field) c.next.new.self c.rows.fields (field_text says.0) (sym c.same_folded.ensures ∙ c.if-same_folded.true)
          (λ v good e. ap field_text (sym (says.1 v good e m))) c.in-Some.ensures.steps (c.rows.invariant m) before rows are fields,
    )
