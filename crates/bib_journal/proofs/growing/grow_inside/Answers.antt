use Rattle.bib_journal.proofs.Words.{rules, ◌≡◌, List, [], length, sym, subst, ◌∙◌, ap, arith, Piece, composed, StandApart, ends_of, composed-stand_apart, Step, edited_at, spot_inside}
use Rattle.bib_journal.proofs.GrowLemmas.{grown_short, grown_ends_short, joined_inside}
use Rattle.bib_journal.proofs.growing.grow_inside.Goals as goal

pub make_inside-made-requires-clause-short : goal.make_inside-made-requires-clause-short
make_inside-made-requires-clause-short g c =
    let taken : c.into_vec-list.result.items ≡ c.args.step.now.pieces = search rules in
    grown_short c.args.step.now.pieces c.args.pieces.now (edited_at c.args.spot.position c.args.spot.byte c.index-pieces-0.result c.into_vec-list.result.items) _ c.requires.leads c.requires.allowed
    (joined_inside c.args.step.now.pieces c.into_vec-list.result.items c.args.pieces.now c.args.spot.position c.args.spot.byte c.index-pieces-0.result c.requires.inside c.index-pieces-0.is taken)

pub make_inside-made-requires-clause-short_ends : goal.make_inside-made-requires-clause-short_ends
make_inside-made-requires-clause-short_ends g c =
    let taken : c.into_vec-list.result.items ≡ c.args.step.now.pieces = search rules in
    grown_ends_short c.args.step.now.pieces c.args.pieces.now (edited_at c.args.spot.position c.args.spot.byte c.index-pieces-0.result c.into_vec-list.result.items) _ c.requires.leads c.requires.allowed
    (joined_inside c.args.step.now.pieces c.into_vec-list.result.items c.args.pieces.now c.args.spot.position c.args.spot.byte c.index-pieces-0.result c.requires.inside c.index-pieces-0.is taken)

pub returns-clause-ends : goal.returns-clause-ends
returns-clause-ends g c =
    let taken : c.into_vec-list.result.items ≡ c.args.step.now.pieces = search rules in
    let joined : c.from_vec.result ≡ composed c.args.step.now.pieces c.args.pieces.now
    = c.from_vec.ensures ∙ c.in_ok-made.ensures.list
    ∙ joined_inside c.args.step.now.pieces c.into_vec-list.result.items c.args.pieces.now c.args.spot.position c.args.spot.byte c.index-pieces-0.result c.requires.inside c.index-pieces-0.is taken in
    record {
      apart = subst (λ (ps : List Piece). StandApart ps []) (sym joined) (composed-stand_apart c.args.step.now.pieces c.args.pieces.now);
      each = c.in_ok-made.ensures.ends ∙ ap ends_of (sym c.from_vec.ensures);
    }

pub edited_len-requires-clause-inside : goal.edited_len-requires-clause-inside
edited_len-requires-clause-inside g c =
    let taken : c.as_slice.result.now ≡ c.args.step.now.pieces = c.as_slice.ensures ∙ ap (λ (s : Step). s.pieces) c.step.view_is in
    omega (arith, ap length taken, spot_inside c.args.spot.position c.args.spot.byte c.args.step.now.pieces c.requires.inside.spot)
