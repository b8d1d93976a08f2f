use Rattle.bib_answers.proofs.Words.{◌<◌, All, length, sym, subst, entries_of}
use Rattle.bib_answers.specs.Cited.{default_min}
use Rattle.bib_answers.proofs.CitedNumbers.{listed_within}
use Rattle.bib_answers.proofs.citing.all_cited.Goals as goal

pub returns-then-is_empty-clause-numbers : goal.returns-then-is_empty-clause-numbers
returns-then-is_empty-clause-numbers c r reads =
    subst (All (λ n. n < length (entries_of r))) (sym (c.in-Ok.ensures.listed r reads)) (listed_within (entries_of r) c.args.keys.now default_min)
