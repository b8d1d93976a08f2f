use Rattle.bib_answers.proofs.Words.{ℕ, List, map, Bor}
use Rattle.bib_answers.proofs.NameLines.{listed_names, listed_fault}
use Rattle.bib_answers.proofs.names.listed_in.Goals as goal

pub returns-clause-names : goal.returns-clause-names
returns-clause-names c =
    listed_names c.split_names.result (map {A = Bor (List ℕ)} {B = List ℕ} (λ n. n.now)) c.args.text.now c.split_names.ensures.names c.split_names.ensures.balanced

pub returns-clause-fault : goal.returns-clause-fault
returns-clause-fault c = listed_fault c.split_names.result c.args.text.now c.split_names.ensures.memory c.split_names.ensures.unbalanced.1
