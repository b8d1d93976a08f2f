use Rattle.std.proofs.Common.{refl}
use Rattle.std.proofs.lemmas.Bool.{false≢true}
use Rattle.bib_c.specs.Calls.{RunsFiles}
use Rattle.bib_c.proofs.files.run_over.Goals as goal

pub returns-then-not-is_over_files : goal.returns-then-not-is_over_files
returns-then-not-is_over_files c = RunsFiles.unknown c.args.command.now refl (λ is. false≢true (c.if-not-is_over_files.ensures.1 is)) c.refuse.ensures.status c.refuse.ensures.forgotten

pub returns-in-Ok : goal.returns-in-Ok
returns-in-Ok c = RunsFiles.answered c.args.command.now c.args.names.now c.args.files.now refl refl refl c.in-Ok.ensures.answered refl c.in-Ok.ensures.session
