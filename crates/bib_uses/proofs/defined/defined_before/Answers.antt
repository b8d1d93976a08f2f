use Rattle.std.proofs.Common.{[], nat_lt, count_by, refl, sym, ◌∙◌, ap, subst}
use Rattle.std.specs.Option.{option_copied}
use Rattle.std.specs.List.Sorted.{IsNonDecreasingBy}
use Rattle.bib_uses.proofs.DefinedNumbers.{found, not_found, counted-found}
use Rattle.bib_uses.proofs.defined.defined_before.Goals as goal

pub returns-in-Some : goal.returns-in-Some
returns-in-Some c items are =
    counted-found items c.args.name.now c.in-Some.numbers.now c.args.n c.count_below.result (found items c.args.defined.now c.args.name.now c.in-Some.numbers.now are (sym (ap option_copied c.in-Some.is) ∙ c.get.ensures))
    (λ rise. c.count_below.ensures (subst (IsNonDecreasingBy (λ m. m)) (sym c.as_slice.ensures) rise) ∙ ap (count_by (λ m. nat_lt m c.args.n)) c.as_slice.ensures)

pub returns-in-None : goal.returns-in-None
returns-in-None c items are =
    counted-found items c.args.name.now [] c.args.n 0 (not_found items c.args.defined.now c.args.name.now are (sym (ap option_copied c.in-None.is) ∙ c.get.ensures)) (λ rise. refl)
