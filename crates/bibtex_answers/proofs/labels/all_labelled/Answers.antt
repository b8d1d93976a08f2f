use Rattle.std.proofs.Common.{◌∙◌, map, sym, ap, arith, refl}
use Rattle.std.proofs.lemmas.List.{get_or-map, length-map}
use Rattle.std.proofs.lemmas.Result.{err_from_is_err_and}
use Rattle.bib_spec.specs.Records.{entries_of}
use Rattle.bibtex_lists.specs.Records.{record_as_listed}
use Rattle.bibtex_labels.specs.Label.{labelled}
use Rattle.bibtex_labels.proofs.AllLemmas.{all_done, all_more, all_stops}
use Rattle.bibtex_answers.proofs.labels.all_labelled.Goals as goal

pub returns-in_err-one-clause-fault : goal.returns-in_err-one-clause-fault
returns-in_err-one-clause-fault c =
    let list = c.args.list.now in
    let n = c.entries.entry-index in
    let p = err_from_is_err_and c.from_residual-in_err-one.result c.from_residual-in_err-one.ensures.1 in
    rw (p.1, p.2)
    (λ other r reads. all_stops labelled (map (record_as_listed (entries_of r)) list) n _ c.entries.entries.items c.in_err-one.field-0.0
    (omega (arith, c.entries-test.true, length-map list (record_as_listed (entries_of r))))
    (ap (record_as_listed (entries_of r)) c.entry-item.is ∙ sym (get_or-map (record_as_listed (entries_of r)) list n _ _ c.entries-test.true))
    (c.entries.invariant r reads) (c.in_err-one.ensures.fault other r reads))

pub entries-preserved : goal.entries-preserved
entries-preserved c r reads =
    let list = c.args.list.now in
    let n = c.entries.entry-index in
    rw c.in_ok-push.ensures.items
    (all_more labelled (map (record_as_listed (entries_of r)) list) n _ c.entries.entries.items c.in_ok-one.one
    (omega (arith, c.entries-test.true, length-map list (record_as_listed (entries_of r))))
    (ap (record_as_listed (entries_of r)) c.entry-item.is ∙ sym (get_or-map (record_as_listed (entries_of r)) list n _ _ c.entries-test.true))
    (c.entries.invariant r reads) (c.in_ok-one.ensures.labelled r reads))

pub returns-clause-entries : goal.returns-clause-entries
returns-clause-entries c r reads =
    let list = c.args.list.now in
    let n = c.entries.entry-index in
    all_done labelled (map (record_as_listed (entries_of r)) list) n c.entries.entries.items (omega (arith, c.entries-test.false, length-map list (record_as_listed (entries_of r)))) (c.entries.invariant r reads)

pub returns-in_err-push-clause-fault : goal.returns-in_err-push-clause-fault
returns-in_err-push-clause-fault c =
    let p = err_from_is_err_and c.from_residual-in_err-push.result c.from_residual-in_err-push.ensures.1 in
    rw (p.1, p.2) (λ other r reads. absurd (other refl))
