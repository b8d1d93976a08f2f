use Rattle.bib_definitions.proofs.Words.{subst, rank_in, Known, label_at, texts_at, AreAtMost}
use Rattle.bib_definitions.proofs.LongestTexts.{at_most}
use Rattle.bib_definitions.proofs.definitions.Definitions.longest.Goals as goal

pub returns-clause-most : goal.returns-clause-most
returns-clause-most c n =
    subst (λ (known : Known). AreAtMost c.self.inside.longest (texts_at known n)) c.self.view_is
    (at_most c.self.inside.longest (label_at c.self.inside.labels (rank_in n c.self.inside.numbers)) c.self.inside.by_name c.self.invariant)
