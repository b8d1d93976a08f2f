use Rattle.bib_answers.proofs.Words.{◌∙◌, List, ap, sym, field_seen, Finding, with_findings}
use Rattle.bib_answers.proofs.FindingSteps.{findings_none}
use Rattle.bib_answers.proofs.PlainTexts.{plain_field_encoding}
use Rattle.bib_answers.proofs.text_findings.add_field_encoding.Goals as goal

pub returns-then-ascii : goal.returns-then-ascii
returns-then-ascii c =
    let plain = c.requires c.if-ascii.true in
    sym (findings_none c.args.lines.now)
    ∙ ap (λ (fs : List Finding). with_findings c.args.lines.now fs) (sym (plain_field_encoding (field_seen c.args.field) c.args.text.now plain.0 plain.1))
