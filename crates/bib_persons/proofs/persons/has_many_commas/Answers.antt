use Rattle.std.proofs.Common.{sym, ap, subst, ◌≤◌, Err}
use Rattle.bib_persons.proofs.FewCommas.{few_no_many, few_of, many_of, unbalanced_of}
use Rattle.bib_persons.proofs.persons.has_many_commas.Goals as goal

pub returns-then-comma_count-le2 : goal.returns-then-comma_count-le2
returns-then-comma_count-le2 c = sym (few_no_many c.args.name.now (subst (λ n. n ≤ 2) c.comma_count.ensures c.if-comma_count-le2.true))

pub returns-in-Ok : goal.returns-in-Ok
returns-in-Ok c = sym (few_of c.args.name.now c.in-Ok.ensures.few)

pub returns-in-Err-TooManyCommas : goal.returns-in-Err-TooManyCommas
returns-in-Err-TooManyCommas c = let is = c.in-Err-TooManyCommas.ensures.commas.0 (ap Err c.in-Err-TooManyCommas.field-0-is) in sym (many_of c.args.name.now is.0 is.1)

pub returns-in-Err-UnbalancedName : goal.returns-in-Err-UnbalancedName
returns-in-Err-UnbalancedName c = sym (unbalanced_of c.args.name.now (c.in-Err-UnbalancedName.ensures.unbalanced.0 (ap Err c.in-Err-UnbalancedName.field-0-is)))
