use Rattle.bib_store.proofs.Words.{subst, Fit}
use Rattle.bib_store.proofs.database.Database.splice_runs.Goals as goal

pub returns-clause-fit : goal.returns-clause-fit
returns-clause-fit g c = subst (Fit c.args.pieces.now) c.self.view_is c.in_ok-replace_runs.ensures.fit
