use Rattle.std.proofs.Common.{◌∙◌, Bor, List, ℕ, map, sym}
use Rattle.bib_spec.specs.Records.{entries_of}
use Rattle.bibtex_lists.specs.Records.{record_as_listed}
use Rattle.bibtex_answers.proofs.LabelLines.{labelled_as}
use Rattle.bibtex_answers.proofs.labels.entry_labelled.Goals as goal

pub returns-in-Ok-clause-labelled : goal.returns-in-Ok-clause-labelled
returns-in-Ok-clause-labelled c r reads =
    sym (labelled_as (map {A = Bor (List ℕ)} {B = List ℕ} (λ name. name.now) c.args.names.now) c.in_ok-rec.rec (record_as_listed (entries_of r) c.args.entry.now) c.requires (c.in_ok-rec.ensures r reads))
    ∙ c.in-Ok.ensures.labelled

pub returns-clause-fault : goal.returns-clause-fault
returns-clause-fault c other r reads =
    sym (labelled_as (map {A = Bor (List ℕ)} {B = List ℕ} (λ name. name.now) c.args.names.now) c.in_ok-rec.rec (record_as_listed (entries_of r) c.args.entry.now) c.requires (c.in_ok-rec.ensures r reads))
    ∙ c.in-Err.ensures.fault other
