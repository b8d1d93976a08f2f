use Rattle.std.proofs.Common.{◌∙◌, ap, List, map, subst}
use Rattle.std.proofs.lemmas.Result.{IfOk-weaker, IfErr-weaker, on_ok_weaker, err_from_is_err_and}
use Rattle.bib_spec.specs.Text.{Text}
use Rattle.bib_shelf.specs.Faults.{AreAccepted, RefusesShelf, no_memory}
use Rattle.bib_shelf.proofs.Files.{files_are_in}
use Rattle.shelf_run.proofs.Shelves.{same_joined}
use Rattle.shelf_run.proofs.linting.open_beside.Goals as goal

pub returns-in_err-files-clause-fault : goal.returns-in_err-files-clause-fault
returns-in_err-files-clause-fault c =
    let p = err_from_is_err_and c.from_residual.result c.from_residual.ensures.1 in
    rw (p.1, p.2) (λ files are. no_memory)

pub returns-clause-opened : goal.returns-clause-opened
returns-clause-opened c =
    let same = ap (λ l. map (λ file. file.now) l) c.as_slice.ensures.value ∙ c.in_ok-files.ensures ∙ files_are_in c.requires.0 c.args.joined.now c.requires.1 in
    IfOk-weaker c.open.result _ _ (λ shelf h. same_joined _ c.requires.0 shelf c.args.joined.now same h c.requires.1) c.open.ensures.opened

pub returns-clause-files : goal.returns-clause-files
returns-clause-files c = on_ok_weaker c.open.result (λ h files are.
    subst AreAccepted (ap (λ l. map (λ file. file.now) l) c.as_slice.ensures.value ∙ c.in_ok-files.ensures ∙ files_are_in files c.args.joined.now are) h)
    c.open.ensures.files

pub returns-clause-fault : goal.returns-clause-fault
returns-clause-fault c = IfErr-weaker c.open.result _ _ (λ fault h files are.
    subst (λ (l : List Text). RefusesShelf l fault.kind fault.place fault.file)
    (ap (λ l. map (λ file. file.now) l) c.as_slice.ensures.value ∙ c.in_ok-files.ensures ∙ files_are_in files c.args.joined.now are) h)
    c.open.ensures.fault
