use Rattle.bib_numbers.proofs.Words.{◌∙◌, ap, rank_in}
use Rattle.bib_numbers.proofs.RisingLabels.{rising_ascend}
use Rattle.bib_numbers.proofs.labels.Labels.rank.Goals as goal

pub returns : goal.returns
returns c = c.count_below.ensures.counted (rising_ascend c.self.inside.list c.self.invariant.rise) ∙ ap (rank_in c.args.label) c.self.view_is
