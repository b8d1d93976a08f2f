use Rattle.bib_answers.proofs.Words.{◌≡◌, [], refl, length, rules}
use Rattle.std.proofs.lemmas.List.{nil_from_length}
use Rattle.bib_answers.proofs.Recurrences.{told_none}
use Rattle.bib_answers.proofs.seen_names.SeenNames.clear.Goals as goal
use native.Mathlib.Omega.{arith}

pub returns-then-len-gt0 : goal.returns-then-len-gt0
returns-then-len-gt0 c all = record { have = λ name may. search rules; told = told_none [] all; joined = refl }

pub returns-else-len-gt0 : goal.returns-else-len-gt0
returns-else-len-gt0 c all =
    let none : length c.args.self.now.others ≡ 0 = omega (arith, c.len.ensures, c.if-len-gt0.false) in
    record { have = λ name may. rw (c.clear.ensures.items, nil_from_length c.args.self.now.others none) refl; told = told_none [] all; joined = refl }
