use Rattle.bib_answers.proofs.Words.{[], refl, rules}
use Rattle.bib_answers.proofs.Recurrences.{told_none}
use Rattle.bib_answers.proofs.seen_names.SeenNames.new.Goals as goal

pub returns : goal.returns
returns c all = record { have = λ name may. search rules; told = told_none [] all; joined = refl }
