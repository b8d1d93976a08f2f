use Rattle.bibtex_labels.proofs.CommandLemmas.{command_more}
use Rattle.bibtex_labels.proofs.purifying.push_commands.Goals as goal

pub commands-preserved : goal.commands-preserved
commands-preserved c =
    rw c.in_ok-push_command.ensures
    (command_more c.commands.rest.now _ c.in-Some.after.now c.commands.out.items _ c.in-Some.ensures.cut c.commands.invariant)
