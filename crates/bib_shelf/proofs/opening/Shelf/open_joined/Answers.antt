use Rattle.std.proofs.Common.{◌∙◌, sym, subst}
use Rattle.std.proofs.lemmas.Result.{err_from_is_err_and}
use Rattle.bib_spec.specs.Text.{Text}
use Rattle.bib_spec.specs.Texts.{IsOpenable}
use Rattle.bib_store.specs.Readings.{IsOpenFault}
use Rattle.bib_shelf.proofs.Opens.{opened}
use Rattle.bib_shelf.proofs.PartedFiles.{joined_as}
use Rattle.bib_shelf.proofs.opening.Shelf.open_joined.Goals as goal

pub returns-in_err-check_each-in-Ok-clause-fault : goal.returns-in_err-check_each-in-Ok-clause-fault
returns-in_err-check_each-in-Ok-clause-fault g c =
    let p = err_from_is_err_and c.from_residual.result c.from_residual.ensures.1 in
    rw (p.1, p.2) (λ files are. c.in_err-check_each-in-Ok.ensures.fault files (joined_as files c.args.joined _ _ are (c.in-Ok.ensures.opened ∙ c.into_vec.ensures) c.as_slice.ensures))

pub returns-in_ok-check_each-in-Ok-clause-files : goal.returns-in_ok-check_each-in-Ok-clause-files
returns-in_ok-check_each-in-Ok-clause-files g c = λ files are.
    opened files c.args.joined c.into_vec.result.items are c.into_vec.ensures
    (c.in_ok-check_each-in-Ok.ensures.read files (joined_as files c.args.joined _ _ are (c.in-Ok.ensures.opened ∙ c.into_vec.ensures) c.as_slice.ensures)
    (subst IsOpenable (sym c.in-Ok.ensures.opened) c.in-Ok.ensures.openable)) c.in-Ok.ensures.openable

pub returns-in-Err-clause-fault : goal.returns-in-Err-clause-fault
returns-in-Err-clause-fault g c = λ files are.
    c.first_fault.ensures files
    (λ memory. joined_as files c.args.joined c.in-Err.unopened.file c.as_slice-in-Err.result.now are (c.in-Err.ensures.returned memory ∙ c.into_vec.ensures) c.as_slice-in-Err.ensures)
    (subst (λ (t : Text). IsOpenFault t c.in-Err.unopened.fault.kind c.in-Err.unopened.fault.place) (c.into_vec.ensures ∙ are.text) c.in-Err.ensures.fault)
