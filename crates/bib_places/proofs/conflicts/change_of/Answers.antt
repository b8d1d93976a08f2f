use Rattle.std.proofs.Common.{List, map, ap, ◌∙◌, subst}
use Rattle.merge_spec.specs.Conflicts.{Changed}
use Rattle.bib_fields.specs.PartsSeen.{part_seen}
use Rattle.bib_fields.specs.declared.telling.ChangedPart.{ChangedPart}
use Rattle.bib_places.specs.PlacesSeen.{MaySee}
use Rattle.bib_places.proofs.ConflictsMet.{changed}
use Rattle.bib_places.proofs.conflicts.change_of.Goals as goal

pub returns-in_ok-parts-in-Some-Some-Some : goal.returns-in_ok-parts-in-Some-Some-Some
returns-in_ok-parts-in-Some-Some-Some g c rb reads_b ro reads_o rt reads_t ub uo ut see_b see_o see_t =
    let at_b = subst (λ o. MaySee rb o ub) c.in-Some-Some-Some.is-0 see_b in
    let at_o = subst (λ o. MaySee ro o uo) c.in-Some-Some-Some.is-1 see_o in
    let at_t = subst (λ o. MaySee rt o ut) c.in-Some-Some-Some.is-2 see_t in
    ap (λ (l : List ChangedPart). Changed (map part_seen l)) c.from_vec.ensures
    ∙ changed rb ro rt c.in-Some-Some-Some.b c.in-Some-Some-Some.o c.in-Some-Some-Some.t ub uo ut _ at_b at_o at_t (c.in_ok-parts-in-Some-Some-Some.ensures rb reads_b ro reads_o rt reads_t ub uo ut at_b at_o at_t)
