use Rattle.bibtex_laws.proofs.NewKeys.{regenerate-keys-keeps-lists}
use Rattle.bibtex_laws.proofs.renaming.regenerating_keys_keeps_lists.Goals as goal

pub returns : goal.returns
returns c = regenerate-keys-keeps-lists
