use Rattle.bib_answers.proofs.Words.{◌≡◌, false, take, list_any, OfValue}
use Rattle.bib_spec.specs.Texts.{parts_of}
use Rattle.bib_answers.specs.Lint.{is_use}
use Rattle.bib_answers.proofs.text_findings.has_use_among.Given as goal

abbrev pub invariant-uses : goal.invariant-uses
invariant-uses l = OfValue l.value (λ v. list_any is_use (take l.n (parts_of v)) ≡ false)
