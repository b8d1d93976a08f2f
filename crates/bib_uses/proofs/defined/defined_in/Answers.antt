use Rattle.std.proofs.Common.{ℕ, ◌<◌, ◌≤◌, List, [], Option, unwrap_or, length, arith, ap, subst}
use Rattle.std.proofs.lemmas.List.{take_all}
use Rattle.bib_spec.specs.Text.{folded}
use Rattle.bib_spec.specs.Reading.{Item}
use Rattle.bib_uses.specs.Seen.{AreDefined}
use Rattle.bib_uses.proofs.DefinedNumbers.{item-within, defined-taken}
use Rattle.bib_uses.proofs.defined.defined_in.Goals as goal

pub items-init : goal.items-init
items-init g c r reads name = ap (λ (o : Option (List ℕ)). unwrap_or o []) (c.new-defined.ensures (folded name))

pub items-preserved : goal.items-preserved
items-preserved g c r reads =
    let within : c.items.n < length r.items = omega (arith, c.items-test.true, c.item_count-n-end.ensures r reads) in
    let found = item-within r.items c.items.n within in
    defined-taken r.items c.items.n found.0 c.items.defined c.add_item.new.defined found.1 within (c.items.invariant r reads) (c.in_ok-add_item.ensures found.0 (c.item.ensures r reads found.0 found.1))

pub returns : goal.returns
returns g c r reads =
    let past : length r.items ≤ c.items.n = omega (arith, c.items-test.false, c.item_count-n-end.ensures r reads) in
    subst (λ (items : List Item). AreDefined items c.items.defined) (take_all c.items.n r.items past) (c.items.invariant r reads)
