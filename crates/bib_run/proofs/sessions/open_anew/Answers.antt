use Rattle.bib_run.proofs.Words.{◌≡◌, true, rules, IfOk-weaker, is_of_journal}
use Rattle.bib_run.proofs.OpenLemmas.{opens_anew}
use Rattle.bib_run.proofs.sessions.open_anew.Goals as goal

pub returns-then-is_of_journal-clause-opened : goal.returns-then-is_of_journal-clause-opened
returns-then-is_of_journal-clause-opened c =
    let at_fault : is_of_journal c.args.fault ≡ true = search rules in
    IfOk-weaker c.open_file.result _ _ (λ session opened journal refuses. opens_anew c.args.fault c.args.file.items journal session at_fault refuses opened) c.open_file.ensures.opened
