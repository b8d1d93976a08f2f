use Rattle.bib_answers.proofs.Words.{on_ok_weaker}
use Rattle.bib_answers.proofs.ItemFields.{IsViewed, viewed}
use Rattle.bib_answers.proofs.ItemFindings.{item_written}
use Rattle.bib_answers.proofs.findings.add_item_findings.Goals as goal

pub returns : goal.returns
returns c = on_ok_weaker c.add_trail_findings.result (λ h r reads.
    let is : IsViewed r c.args.it.n c.args.it.view.now = viewed c.args.db.now r c.args.it.n c.args.it.view.now reads (c.requires.item r reads) (c.requires.seen r reads) in
    item_written r c.args.it.n c.args.it.view.now is c.args.lines.now c.add_body_findings.new.lines c.add_trail_findings.new.lines (c.in_ok-add_body_findings.ensures r reads) (h is.item is.view_is))
    c.add_trail_findings.ensures
