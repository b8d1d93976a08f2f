use Rattle.std.proofs.Common.{refl}
use Rattle.bib_state.specs.Calls.{DoesScript}
use Rattle.bib_state.proofs.state.State.script.Goals as goal

pub returns-in-Some-clause-done : goal.returns-in-Some-clause-done
returns-in-Some-clause-done c = DoesScript.opened (record {
  before = c.in-Some.session;
  after = c.perform_script.new.session;
  was = c.in-Some.is;
  is = refl;
  moved = c.perform_script.ensures;
})
