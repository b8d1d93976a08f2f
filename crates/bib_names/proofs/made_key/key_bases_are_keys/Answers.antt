use Rattle.bib_names.proofs.MadeKeyLaws.{key_bases_are_keys}
use Rattle.bib_names.proofs.made_key.key_bases_are_keys.Goals as goal

pub returns : goal.returns
returns c = key_bases_are_keys
