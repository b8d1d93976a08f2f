use Rattle.bib_run.proofs.StoredRuns.{a-run-is-a-session, runs-are-one-session, one-undo-leads-to-the-first-file, one-redo-leads-to-the-last-file, runs-of-renamings-keep-every-record}
use Rattle.bib_run.proofs.laws.runs_of_the_program_are_one_session.Goals as goal

pub returns : goal.returns
returns c = record {
  each = a-run-is-a-session;
  all = runs-are-one-session;
  first = one-undo-leads-to-the-first-file;
  last = one-redo-leads-to-the-last-file;
  renamed = runs-of-renamings-keep-every-record;
}
