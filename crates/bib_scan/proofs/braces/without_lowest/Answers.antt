use Rattle.bib_scan.proofs.MaskLemmas.{bit_at-without_lowest}
use Rattle.bib_scan.proofs.braces.without_lowest.Goals as goal

pub returns : goal.returns
returns c = bit_at-without_lowest c.args.bits c.args.place c.requires.set c.requires.below
