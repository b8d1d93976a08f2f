use Rattle.bib_answers.proofs.Words.{◌∙◌, ◌≤◌, sym, ap, subst, false≢true}
use Rattle.std.proofs.Common.{count_by}
use Rattle.bib_spec.specs.Text.{Text}
use Rattle.bib_persons.specs.Persons.{is_comma_byte, has_names}
use Rattle.bib_answers.specs.Plain.{is_other}
use Rattle.bib_answers.proofs.PlainTexts.{plain_own}
use Rattle.bib_answers.proofs.text_findings.is_plain.Goals as goal

pub returns-then-has_names : goal.returns-then-has_names
returns-then-has_names c few field macros is v ok same =
    let both = c.are_ascii.ensures c.if-not-are_ascii.false in
    plain_own field macros v (ap (count_by is_other) is ∙ both.0) (ap (count_by is_other) same ∙ both.1)
    (λ named raw most. c.has_few_commas.ensures few raw (subst (λ (t : Text). count_by is_comma_byte raw ≤ count_by is_comma_byte t) same most))

pub returns : goal.returns
returns c yes_it field macros is v ok same =
    let both = c.are_ascii.ensures c.if-not-are_ascii.false in
    plain_own field macros v (ap (count_by is_other) is ∙ both.0) (ap (count_by is_other) same ∙ both.1)
    (λ named. absurd (false≢true (sym c.if-has_names.false ∙ c.has_names.ensures ∙ sym (ap has_names is) ∙ named)))
