use Rattle.bib_run.proofs.Words.{◌≡◌, ◌≤◌, take, sum_by, changes_of}
use Rattle.bib_run.proofs.commands.edit.edits_in.Given as goal

abbrev pub invariant-request : goal.invariant-request
invariant-request l = record {
  counted : l.edits ≡ sum_by changes_of (take l.request-index l.requests);
  small : l.edits ≤ l.request-index;
}
