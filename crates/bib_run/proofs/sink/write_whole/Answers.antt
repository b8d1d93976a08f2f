use Rattle.bib_run.proofs.Words.{rules, arith}
use Rattle.std.proofs.lemmas.Grind.{common_steps}
use Rattle.bib_run.proofs.Progress.{Appends-more}
use Rattle.bib_run.proofs.sink.write_whole.Goals as goal

pub drain-preserved-in-Ok : goal.drain-preserved-in-Ok
drain-preserved-in-Ok g c = record {
  given = Appends-more _ _ _ _ _ _ c.drain.invariant.given c.in-Ok.ensures.bytes;
  within = grind (arith, common_steps);
  sound = search rules;
}
