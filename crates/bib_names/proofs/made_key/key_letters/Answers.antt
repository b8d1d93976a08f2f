use Rattle.bib_names.proofs.MadeKeyLaws.{key_letters-short, key_letters-is_key}
use Rattle.bib_names.proofs.made_key.key_letters.Goals as goal

pub returns-clause-is_key : goal.returns-clause-is_key
returns-clause-is_key c = rw (c.from_vec.ensures, c.in_ok-letters_of.ensures) (key_letters-is_key c.args.label_base.now)

pub returns-clause-short : goal.returns-clause-short
returns-clause-short c = rw (c.from_vec.ensures, c.in_ok-letters_of.ensures) (key_letters-short c.args.label_base.now)
