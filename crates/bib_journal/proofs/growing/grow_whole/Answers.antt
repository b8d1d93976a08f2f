use Rattle.bib_journal.proofs.Words.{◌≡◌, List, [], sym, subst, ◌∙◌, ap, Piece, composed, StandApart, ends_of, Step, composed-stand_apart}
use Rattle.bib_journal.proofs.GrowLemmas.{grown_short, grown_ends_short}
use Rattle.bib_journal.proofs.growing.grow_whole.Goals as goal

pub renew_ends-requires-clause-short : goal.renew_ends-requires-clause-short
renew_ends-requires-clause-short g c =
    let joined : c.as_slice-7.result.now ≡ composed c.args.step.now.pieces c.args.pieces.now
    = c.as_slice-7.ensures ∙ c.in_ok-joined.ensures ∙ ap (λ (ps : List Piece). composed ps c.args.pieces.now) (c.as_slice.ensures ∙ ap (λ (s : Step). s.pieces) c.step.view_is) in
    grown_short c.args.step.now.pieces c.args.pieces.now c.as_slice-7.result.now _ c.requires.leads c.requires.allowed joined

pub renew_ends-requires-clause-short_ends : goal.renew_ends-requires-clause-short_ends
renew_ends-requires-clause-short_ends g c =
    let joined : c.as_slice-7.result.now ≡ composed c.args.step.now.pieces c.args.pieces.now
    = c.as_slice-7.ensures ∙ c.in_ok-joined.ensures ∙ ap (λ (ps : List Piece). composed ps c.args.pieces.now) (c.as_slice.ensures ∙ ap (λ (s : Step). s.pieces) c.step.view_is) in
    grown_ends_short c.args.step.now.pieces c.args.pieces.now c.as_slice-7.result.now _ c.requires.leads c.requires.allowed joined

pub returns-clause-ends : goal.returns-clause-ends
returns-clause-ends g c = record {
  apart = subst (λ (ps : List Piece). StandApart ps []) (sym c.in_ok-joined.ensures) (composed-stand_apart c.as_slice.result.now c.args.pieces.now);
  each = c.renew_ends.ensures ∙ ap ends_of c.as_slice-7.ensures;
}
