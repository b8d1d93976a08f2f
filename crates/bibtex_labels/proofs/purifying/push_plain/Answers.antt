use Rattle.bibtex_labels.proofs.PieceLemmas.{plain_fewer}
use Rattle.bibtex_labels.proofs.CommandLemmas.{plain_left}
use Rattle.bibtex_labels.proofs.purifying.push_plain.Goals as goal

pub returns-clause-rest : goal.returns-clause-rest
returns-clause-rest c = rw c.in_ok-push_bytes.ensures (plain_left _ _ _ c.args.out.now.items c.split_plain-rest.ensures)

pub returns-clause-fewer : goal.returns-clause-fewer
returns-clause-fewer c = plain_fewer _ _ _ c.split_plain-rest.ensures
