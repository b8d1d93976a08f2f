use Rattle.bib_edit.proofs.Words.{◌≡◌, ◌+◌, sym, subst, IfOk-weaker, Text, OfReading}
use Rattle.bib_data.specs.declared.position.Position.{Position}
use Rattle.bib_edit.specs.Positions.{items_before_meant, count_meant, place_of, NamesOneEntry, IsPositionPlace}
use Rattle.bib_edit.proofs.positions.place_of.Goals as goal

pub returns-in-Before-clause-place : goal.returns-in-Before-clause-place
returns-in-Before-clause-place g c =
    IfOk-weaker c.place_before.result (λ place. OfReading c.args.db.now (λ r. (count_meant c.as_slice.result.now r ≡ 1) × (place ≡ items_before_meant c.as_slice.result.now r.items))) (IsPositionPlace c.args.db.now c.args.position.now)
    (λ place told db reads.
    let is = subst (λ (k : Text). (count_meant k db ≡ 1) × (place ≡ items_before_meant k db.items)) c.as_slice.ensures (told db reads) in
    subst (λ (p : Position). NamesOneEntry p db × (place ≡ place_of p db)) (sym c.in-Before.is) is)
    c.place_before.ensures.place

pub returns-in-After-clause-place : goal.returns-in-After-clause-place
returns-in-After-clause-place g c =
    IfOk-weaker c.place_after.result (λ place. OfReading c.args.db.now (λ r. (count_meant c.as_slice-in-After.result.now r ≡ 1) × (place ≡ items_before_meant c.as_slice-in-After.result.now r.items + 1))) (IsPositionPlace c.args.db.now c.args.position.now)
    (λ place told db reads.
    let is = subst (λ (k : Text). (count_meant k db ≡ 1) × (place ≡ items_before_meant k db.items + 1)) c.as_slice-in-After.ensures (told db reads) in
    subst (λ (p : Position). NamesOneEntry p db × (place ≡ place_of p db)) (sym c.in-After.is) is)
    c.place_after.ensures.place
