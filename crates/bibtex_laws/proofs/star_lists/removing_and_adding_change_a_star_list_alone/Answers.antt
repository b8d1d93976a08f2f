use Rattle.bibtex_laws.proofs.StarEdits.{edits-gain-or-lose}
use Rattle.bibtex_laws.proofs.star_lists.removing_and_adding_change_a_star_list_alone.Goals as goal

pub returns : goal.returns
returns c = edits-gain-or-lose
