use Rattle.bib_answers.proofs.Words.{◌∙◌, List, ap, sym, Finding, with_findings}
use Rattle.bib_answers.proofs.FindingSteps.{findings_none}
use Rattle.bib_answers.proofs.PlainTexts.{plain_encoding}
use Rattle.bib_answers.proofs.findings.add_encoding.Goals as goal

pub returns-then-ascii : goal.returns-then-ascii
returns-then-ascii c =
    let plain = c.requires c.if-ascii.true in
    sym (findings_none c.args.lines.now)
    ∙ ap (λ (fs : List Finding). with_findings c.args.lines.now fs) (sym (plain_encoding c.args.entry.now.key_at c.args.entry.now.type_name c.args.entry.now.key plain.type_name plain.key))
