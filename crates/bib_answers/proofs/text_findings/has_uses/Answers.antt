use Rattle.bib_answers.proofs.Words.{◌≡◌, ◌∙◌, Bool, true, false, refl, sym, ap, list_any, part_view}
use Rattle.std.proofs.Common.{◌||◌}
use Rattle.bib_answers.specs.Lint.{is_use}
use Rattle.bib_answers.proofs.text_findings.has_uses.Goals as goal

alone : (b : Bool) → b ≡ (b || false)
alone true = refl
alone false = refl

pub returns-in-Some : goal.returns-in-Some
returns-in-Some c = λ v ok same. c.is_use.ensures ∙ alone (is_use (part_view c.in-Some.part)) ∙ sym (ap (list_any is_use) (c.in-Some.ensures v ok same))
