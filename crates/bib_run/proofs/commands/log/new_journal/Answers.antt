use Rattle.bib_run.proofs.Words.{rules, subst, SessionState, Saves}
use Rattle.bib_run.specs.Log.{forgot}
use Rattle.bib_run.proofs.commands.log.new_journal.Goals as goal

pub returns : goal.returns
returns c = forgot c.in-Ok.saved c.is_sound.ensures.present (subst (λ (s : SessionState). Saves s.steps c.in-Ok.saved) c.requires c.in-Ok.ensures.saved) (search rules)
