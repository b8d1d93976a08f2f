use Rattle.bib_scan.proofs.Words.{refl, arith, is_name_byte, CLASSES}
use Rattle.bib_scan.proofs.TableLemmas.{agree_below, from_table}
use Rattle.bib_scan.proofs.class.is_name_byte.Goals as goal

pub returns : goal.returns
unfolding agree_below is_name_byte
returns c = from_table CLASSES 1 is_name_byte c.args.byte (omega arith) refl
