use Rattle.bib_definitions.proofs.Words.{◌≡◌, ◌≤◌, ◌∙◌, length, refl, nat_lt, true, false, List, sym, ap, subst, IsPartitionPoint, Definition, Held, with_definition, definitions_held}
use Rattle.bib_definitions.proofs.PlacedDefinitions.{with_at}
use Rattle.bib_definitions.proofs.held.Held.with.Goals as goal

pub returns-in-Many : goal.returns-in-Many
returns-in-Many c =
    let l = c.args.definition.label in
    let point = subst (λ (ds : List Definition). IsPartitionPoint (λ d. nat_lt d.label l ≡ true) (λ d. nat_lt d.label l ≡ false) ds c.count_below-place.result) c.deref.ensures.value c.count_below-place.ensures.point in
    c.longer.ensures
    ∙ with_at l c.args.definition c.in-Many.all.items c.count_below-place.result refl (subst (λ (ds : List Definition). c.count_below-place.result ≤ length ds) c.deref.ensures.value c.count_below-place.ensures.within) point
    ∙ ap (λ (h : Held). with_definition c.args.definition (definitions_held h)) (sym c.in-Many.is)
