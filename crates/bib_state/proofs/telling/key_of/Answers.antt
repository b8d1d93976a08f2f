use Rattle.bib_answers.proofs.Words.{◌∙◌, Some, ap}
use Rattle.bib_answers.proofs.EntryNumbers.{entry_key}
use Rattle.bib_answers.proofs.Shown.{number_is}
use Rattle.bib_state.proofs.telling.key_of.Goals as goal

pub returns-in-Some : goal.returns-in-Some
returns-in-Some c r reads =
    let within = number_is _ c.args.n c.in-Some.n c.in-Some.is c.requires r reads in
    rw c.in-Some.is (ap (λ k. Some k) (c.key.ensures ∙ entry_key r c.in-Some.n c.entry.result within (c.entry.ensures r reads)))
