use Rattle.ris_text.proofs.Words.{◌≡◌, ◌≢◌, length, sym, ap, ◌∙◌, arith, inl, inr, eqb-true, eqb-false}
use Rattle.std.proofs.Common.{⊎_elim}
use Rattle.std.proofs.lemmas.Result.{err_from_is_err_and}
use Rattle.ris_text.specs.Code.{seen}
use Rattle.ris_text.proofs.ToldLemmas.{length-after, record_typed, record_untyped, record_broken}
use Rattle.ris_text.proofs.reading.read_record.Goals as goal

pub read_inner-requires : goal.read_inner-requires
read_inner-requires c = omega (arith, ap length c.in_ok-kind_name.ensures.after, length-after c.args.lines)

pub returns-in_err-inner-clause-refused : goal.returns-in_err-inner-clause-refused
returns-in_err-inner-clause-refused c =
    let p = err_from_is_err_and c.from_residual-in_err-inner.result c.from_residual-in_err-inner.ensures.1 in
    rw (p.1, p.2) (⊎_elim inl
    (λ e. inr (record_broken c.args.end (seen c.args.begin) c.args.lines c.in_ok-kind_name.inner c.in_err-inner.field-0.0 c.in_ok-kind_name.ensures.after e))
    c.in_err-inner.ensures.refused)

pub returns-then-is_empty-clause-refused : goal.returns-then-is_empty-clause-refused
returns-then-is_empty-clause-refused c =
    let none : length c.as_slice.result.now ≡ 0 = eqb-true (length c.as_slice.result.now) 0 (sym c.is_empty.ensures ∙ c.if-is_empty.true) in
    inr (record_untyped c.args.end (seen c.args.begin) c.args.lines c.in_ok-kind_name.inner c.in_ok-kind_name.kind_name c.in_ok-inner.inner.kept c.in_ok-inner.inner.skipped _
    c.in_ok-kind_name.ensures.value c.in_ok-kind_name.ensures.after c.in_ok-inner.ensures.read (sym (ap length c.as_slice.ensures) ∙ none))

pub returns-clause-read : goal.returns-clause-read
returns-clause-read c =
    let some : length c.as_slice.result.now ≢ 0 = eqb-false (length c.as_slice.result.now) 0 (sym c.is_empty.ensures ∙ c.if-is_empty.false) in
    record_typed c.args.end (seen c.args.begin) c.args.lines c.in_ok-kind_name.inner c.in_ok-kind_name.kind_name c.in_ok-inner.inner.kept c.in_ok-inner.inner.skipped _
    c.in_ok-kind_name.ensures.value c.in_ok-kind_name.ensures.after c.in_ok-inner.ensures.read (λ e. some (ap length c.as_slice.ensures ∙ e))

pub returns-clause-count : goal.returns-clause-count
returns-clause-count c = omega (arith, c.in_ok-inner.ensures.count, ap length c.in_ok-kind_name.ensures.after, length-after c.args.lines)
