use Rattle.std.proofs.Common.{[], ◌∷◌, ◌++◌, ◌∙◌, ap, subst}
use Rattle.bib_spec.specs.Text.{Text}
use Rattle.bib_scan.specs.View.{View}
use Rattle.bib_merge.specs.Bodies.{bodies_of, AreMet}
use Rattle.bib_merge.proofs.meeting.meet_item.Goals as goal

pub returns : goal.returns
returns c rm reads_m r reads i wanted at met =
    subst (λ (b : Text). AreMet (bodies_of rm) (wanted ++ b ∷ []) c.meet.result) (c.body.ensures ∙ ap (λ (v : View). v.body) (c.item.ensures r reads i at)) (c.meet.ensures rm reads_m wanted met)
