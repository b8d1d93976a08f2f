use Rattle.std.proofs.Common.{◌∙◌, ap, refl}
use Rattle.std.specs.Prelude.{option_map}
use Rattle.bib_run.specs.Runs.{view_of}
use Rattle.bibkeep.proofs.Finishing.{new_tap, none_either, ran_over}
use Rattle.bibkeep.proofs.run_over.Goals as goal

pub returns : goal.returns
returns g c =
    ran_over _ _ _ _ _ _ _ _ _ c.run-outcome.ensures.ran
    (new_tap _ _ _ (ap g.F.Read.remaining c.watched-file.ensures.inner) c.watched-file.ensures.fault)
    (ap (option_map (view_of g.J.Read.remaining)) c.as_mut.ensures.value ∙ c.over-journal.ensures)
    (new_tap _ _ _ refl c.watched-input.ensures.fault)
    (new_tap _ _ _ (none_either _) c.output-out.ensures)
