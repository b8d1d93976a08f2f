use Rattle.std.proofs.Common.{refl}
use Rattle.std.proofs.lemmas.Bool.{false≢true}
use Rattle.bib_c.specs.Calls.{Runs}
use Rattle.bib_c.proofs.calls.run_command.Goals as goal

pub returns-then-not-is_known : goal.returns-then-not-is_known
returns-then-not-is_known c = Runs.unknown c.args.command.now refl (λ is. false≢true (c.if-not-is_known.ensures.1 is)) c.refuse.ensures.status c.refuse.ensures.forgotten

pub returns-in-Ok : goal.returns-in-Ok
returns-in-Ok c = Runs.answered c.args.command.now refl c.in-Ok.ensures.answered refl c.in-Ok.ensures.session
