use Rattle.bibtex_laws.proofs.NewKeys.{rename-key-keeps-lists}
use Rattle.bibtex_laws.proofs.renaming.renaming_a_key_keeps_lists.Goals as goal

pub returns : goal.returns
returns c = rename-key-keeps-lists
