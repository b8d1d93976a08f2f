use Rattle.ris_text.proofs.Words.{length, ap, arith}
use Rattle.ris_text.proofs.LineLemmas.{length-lines_of}
use Rattle.ris_text.proofs.RestLaws.{all-left}
use Rattle.ris_text.proofs.reading.Unread.of.Goals as goal

pub invariant_of-result : goal.invariant_of-result
invariant_of-result c = omega (arith, ap length c.of.ensures, length-lines_of c.args.file.now)

pub returns : goal.returns
returns c = all-left c.args.file.now c.of.result c.of.ensures
