use Rattle.bibtex_laws.proofs.KeyOrder.{keys-list-the-dialects}
use Rattle.bibtex_laws.proofs.key_lists.keys_give_the_cited_list_of_the_dialect.Goals as goal

pub returns : goal.returns
returns c = keys-list-the-dialects
