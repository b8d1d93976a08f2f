use Rattle.bib_answers.proofs.Words.{rules}
use Rattle.bib_answers.specs.NewKeys.{newkeys_answer}
use Rattle.bib_answers.proofs.newkeys.answer_newkeys.Goals as goal

pub returns : goal.returns
returns c = c.answer_file.ensures (newkeys_answer c.args.depth) (λ file given called. search rules)
