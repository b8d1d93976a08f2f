use Rattle.std.proofs.Common.{◌++◌, sym, subst}
use Rattle.std.specs.List.{flat_map}
use Rattle.bib_spec.specs.Text.{Text}
use Rattle.bib_spec.specs.Reading.{item_bytes}
use Rattle.bibtex_plain.specs.Walking.{IsLastFrom}
use Rattle.bibtex_plain.proofs.ItemPlaces.{follows_items}
use Rattle.bibtex_plain.proofs.WalkSteps.{walk_first, front_stops}
use Rattle.bibtex_plain.proofs.plain.past_front.Goals as goal

pub returns-in-Ok-clause-next : goal.returns-in-Ok-clause-next
returns-in-Ok-clause-next c r reads =
    let front = c.front-front.ensures r reads in
    walk_first r c.front-front.result.now c.in-Ok.is_over front
    (c.in-Ok.ensures (flat_map item_bytes r.items) (follows_items r.items 0 c.args.items (c.requires.items r reads))
    (subst (λ (t : Text). IsLastFrom c.args.last 0 (t ++ flat_map item_bytes r.items)) (sym front) (c.requires.last r reads)))

pub returns-in-Err-clause-breach : goal.returns-in-Err-clause-breach
returns-in-Err-clause-breach c r reads =
    let front = c.front-front.ensures r reads in
    front_stops r c.front-front.result.now c.in-Err.place front
    (c.in-Err.ensures (flat_map item_bytes r.items) (follows_items r.items 0 c.args.items (c.requires.items r reads))
    (subst (λ (t : Text). IsLastFrom c.args.last 0 (t ++ flat_map item_bytes r.items)) (sym front) (c.requires.last r reads)))
