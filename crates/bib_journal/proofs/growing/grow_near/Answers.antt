use Rattle.bib_journal.proofs.Words.{rules, ◌≡◌, List, [], length, sym, subst, ◌∙◌, ap, arith, Piece, composed, StandApart, ends_of, Step, composed-stand_apart, amended}
use Rattle.bib_journal.proofs.GrowLemmas.{grown_short, grown_ends_short}
use Rattle.bib_journal.proofs.TextLens.{few_pieces}
use Rattle.bib_journal.proofs.growing.grow_near.Goals as goal

pub amended_len-requires-clause-few : goal.amended_len-requires-clause-few
amended_len-requires-clause-few g c =
    omega (arith, few_pieces c.args.step.now.label c.args.step.now.pieces c.args.len c.requires.len, c.requires.limit, ap length (c.as_slice-5.ensures ∙ ap (λ (s : Step). s.pieces) c.step.view_is))

pub make-made-requires-clause-short : goal.make-made-requires-clause-short
make-made-requires-clause-short g c =
    let was : c.as_slice-3.result.now ≡ c.args.step.now.pieces = c.as_slice-3.ensures ∙ ap (λ (s : Step). s.pieces) c.step.view_is in
    let taken : c.into_vec-list.result.items ≡ c.args.step.now.pieces = search rules in
    let joined : amended c.in_ok-change.change c.into_vec-list.result.items ≡ composed c.args.step.now.pieces c.args.pieces.now
    = ap (amended c.in_ok-change.change) (taken ∙ sym was) ∙ c.in_ok-change.ensures.value ∙ ap (λ (ps : List Piece). composed ps c.args.pieces.now) was in
    grown_short c.args.step.now.pieces c.args.pieces.now (amended c.in_ok-change.change c.into_vec-list.result.items) _ c.requires.leads c.requires.allowed joined

pub make-made-requires-clause-short_ends : goal.make-made-requires-clause-short_ends
make-made-requires-clause-short_ends g c =
    let was : c.as_slice-3.result.now ≡ c.args.step.now.pieces = c.as_slice-3.ensures ∙ ap (λ (s : Step). s.pieces) c.step.view_is in
    let taken : c.into_vec-list.result.items ≡ c.args.step.now.pieces = search rules in
    let joined : amended c.in_ok-change.change c.into_vec-list.result.items ≡ composed c.args.step.now.pieces c.args.pieces.now
    = ap (amended c.in_ok-change.change) (taken ∙ sym was) ∙ c.in_ok-change.ensures.value ∙ ap (λ (ps : List Piece). composed ps c.args.pieces.now) was in
    grown_ends_short c.args.step.now.pieces c.args.pieces.now (amended c.in_ok-change.change c.into_vec-list.result.items) _ c.requires.leads c.requires.allowed joined

pub returns-clause-ends : goal.returns-clause-ends
returns-clause-ends g c =
    let was : c.as_slice-3.result.now ≡ c.args.step.now.pieces = c.as_slice-3.ensures ∙ ap (λ (s : Step). s.pieces) c.step.view_is in
    let taken : c.into_vec-list.result.items ≡ c.args.step.now.pieces = search rules in
    let joined : amended c.in_ok-change.change c.into_vec-list.result.items ≡ composed c.args.step.now.pieces c.args.pieces.now
    = ap (amended c.in_ok-change.change) (taken ∙ sym was) ∙ c.in_ok-change.ensures.value ∙ ap (λ (ps : List Piece). composed ps c.args.pieces.now) was in
    record {
      apart = subst (λ (ps : List Piece). StandApart ps []) (sym (c.from_vec.ensures ∙ c.in_ok-made.ensures.list ∙ joined)) (composed-stand_apart c.args.step.now.pieces c.args.pieces.now);
      each = c.in_ok-made.ensures.ends ∙ ap ends_of (sym c.from_vec.ensures);
    }
