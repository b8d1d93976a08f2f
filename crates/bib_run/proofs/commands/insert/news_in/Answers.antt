use Rattle.bib_run.proofs.Words.{sym, subst, IfOk-weaker, Text}
use Rattle.bib_spec.specs.Reading.{Reads}
use Rattle.bib_run.proofs.commands.insert.news_in.Goals as goal

pub returns : goal.returns
returns c =
    IfOk-weaker c.news_of.result _ _
    (λ news is.
    record { place = c.in-Ok.place; is_place = c.in-Ok.ensures.place; are = λ db reads new reads_new. is db reads new (subst (λ (t : Text). Reads t new) (sym c.in-Ok-open_bytes.ensures.opened) reads_new) })
    c.news_of.ensures
