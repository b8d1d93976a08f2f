use Rattle.bib_answers.proofs.Words.{◌∙◌, List, map, ap, sym, Finding, with_findings}
use Rattle.bib_answers.specs.Lint.{stray_finding}
use Rattle.bib_answers.proofs.FindingSteps.{findings_none}
use Rattle.bib_answers.proofs.PlainGaps.{feeds_plain}
use Rattle.bib_answers.proofs.gap_findings.add_gap_findings.Goals as goal

pub returns-then-is_line_feeds : goal.returns-then-is_line_feeds
returns-then-is_line_feeds c =
    sym (findings_none c.args.lines.now)
    ∙ ap (λ (fs : List Finding). with_findings c.args.lines.now fs)
    (sym (ap (map (stray_finding c.args.at)) (feeds_plain c.args.commented c.args.text.now (sym c.is_line_feeds.ensures ∙ c.if-is_line_feeds.true))))
