use Rattle.std.proofs.Common.{◌∙◌, ◌++◌, ap}
use Rattle.bib_scan.specs.View.{View}
use Rattle.bibtex_plain.proofs.LastLines.{item_in_trail, item_in_body, empty_both}
use Rattle.bibtex_plain.proofs.lines.item_line.Goals as goal

pub returns-in-Some-clause-line : goal.returns-in-Some-clause-line
returns-in-Some-clause-line c i more seen ends is =
    item_in_trail i c.body-body.result.now c.trail-trail.result.now more c.in-Some.k
    (c.body-body.ensures ∙ ap (λ (v : View). v.body) seen) (c.trail-trail.ensures ∙ ap (λ (v : View). v.trail) seen)
    (c.in-Some.ensures.line more ends is)

pub returns-clause-line : goal.returns-clause-line
returns-clause-line c i more seen ends is =
    item_in_body i c.body-body.result.now c.trail-trail.result.now more c.chunk_line-2.result
    (c.body-body.ensures ∙ ap (λ (v : View). v.body) seen) (c.trail-trail.ensures ∙ ap (λ (v : View). v.trail) seen)
    (c.chunk_line-2.ensures.line (c.trail-trail.result.now ++ more) (c.ends_before.ensures ∙ empty_both c.trail-trail.result.now more c.args.is_end ends) (c.in_default.ensures.line more ends is))
