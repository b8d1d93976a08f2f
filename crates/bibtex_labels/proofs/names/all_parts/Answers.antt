use Rattle.std.proofs.Common.{ℕ, List, Bor, map, sym, arith}
use Rattle.std.proofs.lemmas.List.{get_or-map, length-map}
use Rattle.std.proofs.lemmas.Result.{err_from_is_err_and}
use Rattle.bib_spec.specs.Text.{Text}
use Rattle.bibtex_names.specs.NamesInLists.{parts_in}
use Rattle.bibtex_labels.proofs.AllLemmas.{all_more, all_stops}
use Rattle.bibtex_labels.proofs.names.all_parts.Goals as goal

abbrev bytes_of : Bor (List ℕ) → Text
bytes_of name = name.now

pub returns-in_err-split_name-clause-fault : goal.returns-in_err-split_name-clause-fault
returns-in_err-split_name-clause-fault c =
    let names = c.args.names.now in
    let n = c.names.name-index in
    let p = err_from_is_err_and c.from_residual.result c.from_residual.ensures.1 in
    rw (p.1, p.2)
    (λ other. all_stops parts_in (map bytes_of names) n _ c.names.parts.items c.in_err-split_name.field-0.0
    (omega (arith, c.names-test.true, length-map names bytes_of)) (sym (get_or-map bytes_of names n _ _ c.names-test.true))
    c.names.invariant (c.in_err-split_name.ensures.fault other))

pub names-preserved : goal.names-preserved
names-preserved c =
    let names = c.args.names.now in
    let n = c.names.name-index in
    rw c.in_ok-push.ensures.items
    (all_more parts_in (map bytes_of names) n _ c.names.parts.items c.in_ok-split_name.field-0
    (omega (arith, c.names-test.true, length-map names bytes_of)) (sym (get_or-map bytes_of names n _ _ c.names-test.true))
    c.names.invariant c.in_ok-split_name.ensures.parts)
