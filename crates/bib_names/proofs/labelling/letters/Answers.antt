use Rattle.bib_names.proofs.Words.{◌∙◌}
use Rattle.bib_names.proofs.LabelLaws.{letters_more}
use Rattle.bib_names.proofs.labelling.letters.Goals as goal

pub loop-rest-preserved : goal.loop-rest-preserved
loop-rest-preserved c = rw c.in_ok-push.ensures.items (letters_more c.loop-rest.letters.items c.loop-rest.rest c.loop-rest-test.true ∙ c.loop-rest.invariant)
