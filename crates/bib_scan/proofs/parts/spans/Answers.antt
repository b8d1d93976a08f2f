use Rattle.bib_scan.proofs.Words.{◌≢◌, length, sym, ◌∙◌, arith, eqb-true, eqb-false, err_from_is_err_and, name_limit}
use Rattle.bib_scan.proofs.PartsLemmas.{parts_more, parts_end, part_fault, link_fault}
use Rattle.bib_scan.proofs.parts.spans.Goals as goal

pub returns-in_err-part : goal.returns-in_err-part
returns-in_err-part c =
    let p = err_from_is_err_and c.from_residual.result c.from_residual.ensures.1 in
    rw (p.1, p.2) (part_fault name_limit _ _ _ _ c.parts.invariant c.in_err-part.ensures.read)

pub returns-then-is_empty : goal.returns-then-is_empty
returns-then-is_empty c =
    let end = parts_end name_limit _ _ _ _ _ c.parts.invariant c.in_ok-part.ensures.read (eqb-true _ _ (sym c.is_empty.ensures ∙ c.if-is_empty.true)) in
    rw (c.in_ok-push.ensures.items, c.of.ensures) end

pub returns-in_err-next : goal.returns-in_err-next
returns-in_err-next c =
    let p = err_from_is_err_and c.from_residual-in_err-next.result c.from_residual-in_err-next.ensures.1 in
    let some : length c.in_ok-part.rest.now ≢ 0 = eqb-false _ _ (sym c.is_empty.ensures ∙ c.if-is_empty.false) in
    rw (p.1, p.2) (link_fault name_limit _ _ _ _ _ _ c.parts.invariant c.in_ok-part.ensures.read (omega arith) c.in_err-next.ensures.read)

pub parts-preserved : goal.parts-preserved
parts-preserved c =
    let some : length c.in_ok-part.rest.now ≢ 0 = eqb-false _ _ (sym c.is_empty.ensures ∙ c.if-is_empty.false) in
    let more = parts_more name_limit _ _ _ _ _ _ c.parts.invariant c.in_ok-part.ensures.read c.in_ok-part.ensures.shorter (omega arith) c.in_ok-next.ensures.read c.in_ok-next.ensures.shorter in
    rw (c.in_ok-push.ensures.items, c.of.ensures) more
