use Rattle.bib_answers.proofs.Words.{◌∙◌, true, false, List, [], ap, refl, sym, cond-true, cond-false, on_ok_weaker, field_seen, Finding, with_findings, Text}
use Rattle.std.proofs.Common.{count_by}
use Rattle.bib_spec.specs.Texts.{raw_text, field_text}
use Rattle.bib_answers.specs.Lint.{has_uses, text_findings}
use Rattle.bib_answers.specs.Plain.{is_other}
use Rattle.bib_answers.proofs.FindingSteps.{findings_none}
use Rattle.bib_answers.proofs.PlainTexts.{plain_said}
use Rattle.bib_answers.proofs.text_findings.add_own_findings.Goals as goal

pub is_plain-requires : goal.is_plain-requires
is_plain-requires g c known = let plain = c.requires.plain known in (plain.name, plain.value)

pub returns-then-is_plain : goal.returns-then-is_plain
returns-then-is_plain g c = λ v ok same.
    sym (findings_none c.args.lines.now)
    ∙ ap (λ (fs : List Finding). with_findings c.args.lines.now fs) (sym (c.is_plain.ensures c.if-is_plain.true (field_seen c.args.field) (g.M.MacroTable.macros c.args.macros.now) refl v ok same))

pub returns-then-uses : goal.returns-then-uses
returns-then-uses g c = λ v ok same.
    sym (findings_none c.args.lines.now)
    ∙ ap (λ (fs : List Finding). with_findings c.args.lines.now fs) (sym (cond-true (has_uses v) [] (text_findings (field_seen c.args.field) (field_text (raw_text (g.M.MacroTable.macros c.args.macros.now) v))) (sym (c.in_ok-uses.ensures v ok same) ∙ c.if-uses.true)))

pub add_findings_in-requires : goal.add_findings_in-requires
add_findings_in-requires g c known =
    let plain = c.requires.plain known in
    let within = c.requires.value in
    let v = within.0 in (
      plain.name,
      ap (count_by is_other) (c.as_slice.ensures ∙ c.in_ok-text.ensures v within.1 within.2)
          ∙ plain_said (g.M.MacroTable.macros c.args.macros.now) v (sym (c.in_ok-uses.ensures v within.1 within.2) ∙ c.if-uses.false) (ap (count_by is_other) within.2 ∙ plain.value),
    )

pub returns : goal.returns
returns g c = on_ok_weaker c.add_findings_in.result (λ h v ok same.
    h
    ∙ ap (λ (t : Text). with_findings c.args.lines.now (text_findings (field_seen c.args.field) t)) (c.as_slice.ensures ∙ c.in_ok-text.ensures v ok same)
    ∙ ap (λ (fs : List Finding). with_findings c.args.lines.now fs) (sym (cond-false (has_uses v) [] (text_findings (field_seen c.args.field) (field_text (raw_text (g.M.MacroTable.macros c.args.macros.now) v))) (sym (c.in_ok-uses.ensures v ok same) ∙ c.if-uses.false))))
    c.add_findings_in.ensures
