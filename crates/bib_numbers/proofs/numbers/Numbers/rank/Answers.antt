use Rattle.bib_numbers.proofs.Words.{◌∙◌, ap, rank_in}
use Rattle.bib_numbers.proofs.MovedNumbers.{rank_of}
use Rattle.bib_numbers.proofs.numbers.Numbers.rank.Goals as goal

pub returns-clause-below : goal.returns-clause-below
returns-clause-below c front rest p = c.count_below.ensures.counted c.self.invariant ∙ ap (rank_in c.args.n) c.self.view_is ∙ rank_of c.args.n front rest c.args.self.now p
