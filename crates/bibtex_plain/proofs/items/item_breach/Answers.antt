use Rattle.std.proofs.Common.{◌∙◌, ap}
use Rattle.bib_scan.specs.View.{View}
use Rattle.bibtex_plain.proofs.ItemSteps.{stopped_inside, past_body}
use Rattle.bibtex_plain.proofs.items.item_breach.Goals as goal

pub returns-in-Some : goal.returns-in-Some
returns-in-Some c i keys more seen is follows lasts repeated =
    stopped_inside i keys c.args.place c.in-Some.k more c.args.is_over c.if-is_over.false (c.if-is_head_misnamed.ensures i more seen is follows) (c.in-Some.ensures.sign i keys seen repeated)

pub returns : goal.returns
returns c i keys more seen is follows lasts repeated =
    past_body i keys c.args.place c.args.last c.body.result.now c.trail.result.now more c.args.is_over c.gap_breach.result
    (c.body.ensures ∙ ap (λ (v : View). v.body) seen) (c.trail.ensures ∙ ap (λ (v : View). v.trail) seen)
    c.if-is_over.false (c.if-is_head_misnamed.ensures i more seen is follows) (c.in_default.ensures.sign i keys seen repeated) lasts
    (c.gap_breach.ensures more follows)
