use Rattle.std.proofs.Common.{sym, ◌∙◌, ap}
use Rattle.std.proofs.lemmas.Bool.{false≢true}
use Rattle.std.proofs.lemmas.Slice.Eq.{bytes_eq-Decides}
use Rattle.bib_scan.specs.View.{View}
use Rattle.bib_merge.proofs.ItemsMet.{body-there}
use Rattle.bib_merge.proofs.meeting.has_body.Goals as goal

pub returns-clause-same : goal.returns-clause-same
returns-clause-same c is r reads =
    body-there r.items c.args.n c.args.body.now c.body.result.now (c.requires r reads) (λ i at. c.body.ensures ∙ ap (λ (v : View). v.body) (c.item.ensures r reads i at))
    ∙ (bytes_eq-Decides c.body.result.now c.args.body.now).0 (sym c.eq.ensures ∙ is)

pub returns-clause-differ : goal.returns-clause-differ
returns-clause-differ c is r reads same =
    let there = body-there r.items c.args.n c.args.body.now c.body.result.now (c.requires r reads) (λ i at. c.body.ensures ∙ ap (λ (v : View). v.body) (c.item.ensures r reads i at)) in
    false≢true (sym is ∙ c.eq.ensures ∙ (bytes_eq-Decides c.body.result.now c.args.body.now).1 (sym there ∙ same))
