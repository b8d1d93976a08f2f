use Rattle.std.proofs.Common.{◌∙◌, sym, ap, arith, map, filter, Err, Bor, List, ℕ}
use Rattle.std.proofs.lemmas.List.{take_all}
use Rattle.bib_spec.specs.Text.{Text}
use Rattle.bib_persons.specs.Persons.{has_many_commas}
use Rattle.bib_persons.proofs.FewCommas.{unbalanced_list, balanced_list}
use Rattle.bib_persons.proofs.persons.refused_names.Goals as goal

abbrev now : List (Bor (List ℕ)) → List Text
now = map {A = Bor (List ℕ)} {B = List ℕ} (λ n. n.now)

pub returns-in-Err-UnbalancedName : goal.returns-in-Err-UnbalancedName
returns-in-Err-UnbalancedName c =
    ap now c.empty.ensures
    ∙ sym (unbalanced_list c.args.list.now (c.in-Err-UnbalancedName.ensures.unbalanced.0 (ap Err c.in-Err-UnbalancedName.field-0-is)))

pub returns : goal.returns
returns c =
    ap now c.from_vec.ensures
    ∙ c.names.invariant
    ∙ ap (λ (ns : List (Bor (List ℕ))). filter has_many_commas (now ns)) (take_all c.names.name-index c.as_slice-name-items.result.now (let end = c.names-test.false in omega (arith, end)))
    ∙ ap (filter has_many_commas) (ap now c.as_slice-name-items.ensures ∙ c.in-Ok.ensures.names)
    ∙ sym (balanced_list c.args.list.now c.in-Ok.ensures.balanced)
