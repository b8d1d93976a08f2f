use Rattle.bib_answers.proofs.Words.{◌<◌, All, length, sym, subst, entries_of}
use Rattle.bib_answers.proofs.CitedNumbers.{listed_within, found_within}
use Rattle.bib_answers.proofs.entry.all_named.Goals as goal

pub returns-then-cites_all-clause-numbers : goal.returns-then-cites_all-clause-numbers
returns-then-cites_all-clause-numbers c r reads =
    subst (All (λ n. n < length (entries_of r))) (sym (c.in-Ok.ensures.listed r reads)) (listed_within (entries_of r) c.args.keys.now 1)

pub returns-clause-numbers : goal.returns-clause-numbers
returns-clause-numbers c r reads =
    subst (All (λ n. n < length (entries_of r))) (sym (c.in_ok-found.ensures r reads)) (found_within (entries_of r) c.args.keys.now)
