use Rattle.std.proofs.Common.{◌++◌, ◌∙◌, ap, ap₂, append_assoc}
use Rattle.bib_spec.specs.Text.{Text}
use Rattle.bib_scan.specs.View.{View}
use Rattle.extract_spec.specs.Extract.{space_of}
use Rattle.bib_extract.proofs.writing.add_item.Goals as goal

pub returns : goal.returns
returns c i seen =
    c.in_ok-extend_from_slice-2.ensures.items
    ∙ ap₂ (λ (a b : Text). a ++ b) c.in_ok-extend_from_slice.ensures.items c.line_end.ensures
    ∙ append_assoc c.args.out.now.items c.body.result.now (space_of c.trail.result.now)
    ∙ ap₂ (λ (a b : Text). c.args.out.now.items ++ (a ++ space_of b)) (c.body.ensures ∙ ap (λ (v : View). v.body) seen) (c.trail.ensures ∙ ap (λ (v : View). v.trail) seen)
