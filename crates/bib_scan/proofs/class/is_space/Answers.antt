use Rattle.bib_scan.proofs.Words.{refl, arith, is_space, CLASSES}
use Rattle.bib_scan.proofs.TableLemmas.{agree_below, from_table}
use Rattle.bib_scan.proofs.class.is_space.Goals as goal

pub returns : goal.returns
unfolding agree_below is_space
returns c = from_table CLASSES 2 is_space c.args.byte (omega arith) refl
