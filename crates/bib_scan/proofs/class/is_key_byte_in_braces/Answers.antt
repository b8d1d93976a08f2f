use Rattle.bib_scan.proofs.Words.{refl, arith, is_space, goes_on_key, KEYS}
use Rattle.bib_spec.specs.Tree as tree
use Rattle.bib_scan.proofs.TableLemmas.{agree_below, from_table}
use Rattle.bib_scan.proofs.class.is_key_byte_in_braces.Goals as goal

pub returns : goal.returns
unfolding agree_below is_space
returns c = from_table KEYS 1 (goes_on_key tree.Brace) c.args.byte (omega arith) refl
