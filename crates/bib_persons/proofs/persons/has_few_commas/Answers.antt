use Rattle.std.proofs.Common.{subst, arith, ◌≤◌}
use Rattle.std.proofs.lemmas.Bool.{leb-true}
use Rattle.bib_persons.proofs.FewCommas.{few_none_refused}
use Rattle.bib_persons.proofs.persons.has_few_commas.Goals as goal

pub returns : goal.returns
returns c few raw most =
    let all = subst (λ n. n ≤ 2) c.comma_count.ensures (leb-true c.comma_count.result 2 few) in
    few_none_refused raw (omega (arith, most, all))
