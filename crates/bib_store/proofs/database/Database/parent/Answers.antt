use Rattle.bib_store.proofs.Words.{sym, ◌∙◌, entries_of}
use Rattle.bib_spec.proofs.Parents.{target_within}
use Rattle.bib_store.proofs.database.Database.parent.Goals as goal

pub returns-else-target-n-clause-number : goal.returns-else-target-n-clause-number
returns-else-target-n-clause-number g c = λ db reads.
    target_within (entries_of db) c.args.n c.in_ok-target.target (sym (c.target.ensures db reads) ∙ c.in_ok-target.was)
