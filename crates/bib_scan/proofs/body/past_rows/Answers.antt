use Rattle.bib_scan.proofs.Words.{◌<◌, ◌≢◌, length, arith, sym, ◌∙◌, err_from_is_err_and, name_limit, delimiter_view}
use Rattle.bib_scan.proofs.RowsLemmas.{rows_end, rows_comma_fault, rows_tail, rows_row_fault, rows_more}
use Rattle.bib_scan.proofs.NoteLemmas.{crossref_seen, crossref_other, crossref_here, crossref_closed, crossref_tail}
use Rattle.bib_scan.proofs.body.past_rows.Goals as goal
use Rattle.bib_scan.proofs.body.past_rows.Goals.{else-crossref_left-eq0-via-then-crossref_left-eq0+else-same_folded, else-crossref_left-eq0-via-else-crossref_left-eq0}

pub returns-in-Some-clause-read : goal.returns-in-Some-clause-read
returns-in-Some-clause-read c = rw (← c.close-close.ensures) (rows_end name_limit _ _ _ _ c.turns.invariant.0 c.in-Some.ensures.read)

pub returns-in-Some-clause-crossref : goal.returns-in-Some-clause-crossref
returns-in-Some-clause-crossref c = crossref_closed (delimiter_view c.args.delimiter) _ _ _ _ c.turns.invariant.1 (rw c.close-close.ensures at c.in-Some.ensures.read)

pub returns-in_err-past_comma-clause-read : goal.returns-in_err-past_comma-clause-read
returns-in_err-past_comma-clause-read c =
    let p = err_from_is_err_and c.from_residual.result c.from_residual.ensures.1 in
    rw (p.1, p.2, ← c.close-close.ensures) (rows_comma_fault name_limit _ _ _ _ c.turns.invariant.0 c.in_default.ensures.read c.in_err-past_comma.ensures.read)

pub returns-in-Some-past_byte-clause-read : goal.returns-in-Some-past_byte-clause-read
returns-in-Some-past_byte-clause-read c =
    let then_close = rw c.past_space-named.ensures.rest at c.in-Some-past_byte.ensures.read in
    rw (← c.close-close.ensures) (rows_tail name_limit _ _ _ _ _ c.turns.invariant.0 c.in_default.ensures.read c.in_ok-past_comma.ensures.read then_close)

pub returns-in-Some-past_byte-clause-crossref : goal.returns-in-Some-past_byte-clause-crossref
returns-in-Some-past_byte-clause-crossref c =
    let then_close = rw (c.past_space-named.ensures.rest, c.close-close.ensures) at c.in-Some-past_byte.ensures.read in
    crossref_tail (delimiter_view c.args.delimiter) _ _ _ _ _ c.turns.invariant.1 c.in_ok-past_comma.ensures.read then_close

pub returns-in_err-assigned-clause-read : goal.returns-in_err-assigned-clause-read
returns-in_err-assigned-clause-read c =
    let p = err_from_is_err_and c.from_residual-in_err-assigned.result c.from_residual-in_err-assigned.ensures.1 in
    let still = rw c.past_space-named.ensures.rest at c.in_default-past_byte.ensures.read in
    rw (p.1, p.2, ← c.close-close.ensures) (rows_row_fault name_limit _ _ _ _ _ c.turns.invariant.0 c.in_default.ensures.read c.in_ok-past_comma.ensures.read still (rw c.past_space-named.ensures.rest at c.in_err-assigned.ensures.read))

pub turns-preserved-then-same_folded : goal.turns-preserved-then-same_folded
turns-preserved-then-same_folded c =
    let still = rw c.past_space-named.ensures.rest at c.in_default-past_byte.ensures.read in
    let read = rw c.past_space-named.ensures.rest at c.in_ok-assigned.ensures.read in
    let shorter : length c.in_ok-assigned.later.now < length c.turns.rest.now = omega (arith, c.in_ok-assigned.ensures.shorter, c.past_space-named.ensures.within, c.in_ok-past_comma.ensures.shorter) in (
      rows_more name_limit _ _ _ _ _ c.turns.invariant.0 c.in_default.ensures.read c.in_ok-past_comma.ensures.read still read shorter,
      crossref_here _ _ _ _ c.turns.crossref_left c.turns.invariant.1 c.turns.invariant.0.shorter c.in_ok-past_comma.ensures.read read shorter c.if-crossref_left-eq0.true (sym c.same_folded.ensures ∙ c.if-same_folded.true),
    )

pub turns-preserved : goal.turns-preserved
turns-preserved c =
    let still = rw c.past_space-named.ensures.rest at c.in_default-past_byte.ensures.read in
    let read = rw c.past_space-named.ensures.rest at c.in_ok-assigned.ensures.read in
    let shorter : length c.in_ok-assigned.later.now < length c.turns.rest.now = omega (arith, c.in_ok-assigned.ensures.shorter, c.past_space-named.ensures.within, c.in_ok-past_comma.ensures.shorter) in (
      rows_more name_limit _ _ _ _ _ c.turns.invariant.0 c.in_default.ensures.read c.in_ok-past_comma.ensures.read still read shorter,
      elim c.else-crossref_left-eq0.branch [
        | else-crossref_left-eq0-via-then-crossref_left-eq0+else-same_folded w ↦
            crossref_other _ _ _ _ c.turns.crossref_left c.turns.invariant.1 c.turns.invariant.0.shorter c.in_ok-past_comma.ensures.read read shorter (sym w.same_folded.ensures ∙ w.if-same_folded.false)
        | else-crossref_left-eq0-via-else-crossref_left-eq0 w ↦
            let none : c.turns.crossref_left ≢ 0 = w.if-crossref_left-eq0.false in
            crossref_seen _ _ _ _ c.turns.crossref_left c.turns.invariant.1 c.turns.invariant.0.shorter c.in_ok-past_comma.ensures.read read shorter (omega (arith, none))
      ],
    )
