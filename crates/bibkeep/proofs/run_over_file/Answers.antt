use Rattle.std.proofs.Common.{List, ap, sym, subst, slice_get, ◌∙◌}
use Rattle.std.specs.Prelude.{IsUtf8}
use Rattle.bib_spec.specs.Text.{Text}
use Rattle.bibkeep.specs.Ending.{EndsFor}
use Rattle.bibkeep.proofs.Openings.{opened_for}
use Rattle.bibkeep.proofs.run_over_file.Goals as goal

pub returns-in_default-from_utf8 : goal.returns-in_default-from_utf8
returns-in_default-from_utf8 c =
    EndsFor.no_path c.requires.over c.in-Some.path.now (ap (λ (words : List Text). slice_get words 0) (sym c.as_slice.ensures) ∙ sym c.in-Some.ensures.value)
    (subst (λ (t : Text). ¬ IsUtf8 t) c.as_slice-2.ensures c.in_default-from_utf8.ensures.cases.0) c.end_unknown.ensures.status

pub returns : goal.returns
returns c =
    let ensures = c.open-opened.ensures in
    EndsFor.opened c.requires.over c.open-opened.result (opened_for _ _ ensures.apart ensures.unread ensures.looked) c.answer_opened.ensures
