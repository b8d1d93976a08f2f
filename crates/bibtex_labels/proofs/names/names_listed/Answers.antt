use Rattle.std.proofs.Common.{ℕ, List, map, Bor}
use Rattle.bibtex_labels.proofs.NameLemmas.{listed_names, listed_fault}
use Rattle.bibtex_labels.proofs.names.names_listed.Goals as goal

pub returns-clause-names : goal.returns-clause-names
returns-clause-names c =
    listed_names c.split_names.result (map {A = Bor (List ℕ)} {B = List ℕ} (λ n. n.now)) c.args.list.now c.split_names.ensures.names c.split_names.ensures.balanced

pub returns-clause-fault : goal.returns-clause-fault
returns-clause-fault c = listed_fault c.split_names.result c.args.list.now c.split_names.ensures.memory c.split_names.ensures.unbalanced.1
