use Rattle.bib_spec.specs.Records.{entries_of}
use Rattle.std.proofs.lemmas.Result.{IfOk-weaker}
use Rattle.bibtex_answers.proofs.NameAnswers.{names_first}
use Rattle.bibtex_answers.proofs.names.first_names.Goals as goal

pub returns-in-Some : goal.returns-in-Some
returns-in-Some c =
    IfOk-weaker c.entry_names.result _ _
    (λ answer told r reads records have. names_first c.args.template.now (entries_of r) c.args.list.now records c.in-Some.entry.now answer have c.in-Some.ensures.value (told r reads))
    c.entry_names.ensures
