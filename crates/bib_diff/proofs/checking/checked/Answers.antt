use Rattle.std.proofs.Common.{◌∙◌, List, All, sym, subst}
use Rattle.bib_data.specs.declared.request.Request.{Request}
use Rattle.bib_data.specs.Depths.{AsksWithDepth}
use Rattle.bib_diff.proofs.checking.checked.Goals as goal

pub lead-outcome-requires : goal.lead-outcome-requires
lead-outcome-requires c = subst (λ (requests : List Request). All AsksWithDepth requests) (c.as_slice.ensures.value ∙ sym c.as_slice-2.ensures.value) (c.have_depths.ensures c.if-not-have_depths.false)
