use Rattle.bib_run.proofs.Words.{[], rules, refl, IfOk-weaker}
use Rattle.bib_words.specs.Command.{TakesInput}
use Rattle.bib_run.specs.Sources.{read, unread}
use Rattle.bib_run.proofs.reading.read_input.Goals as goal

pub returns-then-takes_input-clause-ok : goal.returns-then-takes_input-clause-ok
returns-then-takes_input-clause-ok g c =
    let takes : TakesInput c.args.command.now = search rules in
    IfOk-weaker c.read_front.result _ _ (λ kept keeps. record { bytes = keeps.bytes; hold = read takes keeps.hold; kept_is = keeps.kept_is }) c.read_front.ensures.ok

pub returns-clause-ok : goal.returns-clause-ok
returns-clause-ok g c =
    let left_alone : ¬ TakesInput c.args.command.now = search rules in
    record { bytes = []; hold = unread left_alone refl refl; kept_is = c.empty.ensures }
