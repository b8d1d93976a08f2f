use Rattle.bibtex_laws.proofs.StarLists.{star-gains-strangers}
use Rattle.bibtex_laws.proofs.star_lists.entries_that_nothing_names_change_a_star_list_alone.Goals as goal

pub returns : goal.returns
returns c = star-gains-strangers
