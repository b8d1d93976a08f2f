use Rattle.bib_run.proofs.Words.{sym, ◌∙◌, IfOk-weaker}
use Rattle.bib_run.specs.InsertAnswer.{asked, no_position}
use Rattle.bib_run.proofs.commands.insert.insert_text.Goals as goal

pub returns-in-Some : goal.returns-in-Some
returns-in-Some c = IfOk-weaker c.insert_at.result _ _ (λ answer h. asked c.in-Some.position (sym c.in_ok-asked.ensures ∙ c.in-Some.is) h) c.insert_at.ensures

pub returns-in-None : goal.returns-in-None
returns-in-None c = IfOk-weaker c.no_position.result _ _ (λ answer h. no_position (sym c.in_ok-asked.ensures ∙ c.in-None.is) h) c.no_position.ensures
