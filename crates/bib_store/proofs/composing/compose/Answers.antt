use Rattle.bib_store.proofs.Words.{◌≡◌, List, sym, subst, ◌∙◌, ap, IfOk-weaker, Text, Piece, Fit, applied}
use Rattle.history_spec.specs.Composing.{composed}
use Rattle.history_spec.proofs.Near.{composable_at_start}
use Rattle.history_spec.proofs.Glued.{composed-fit, composed-lead}
use Rattle.bib_store.proofs.composing.compose.Goals as goal

pub compose_at-requires : goal.compose_at-requires
compose_at-requires c = record { composable = composable_at_start c.args.first.now c.args.second.now c.requires.composable }

pub returns-clause-fit : goal.returns-clause-fit
returns-clause-fit c =
    IfOk-weaker c.compose_at.result (λ (pieces : List Piece). pieces ≡ composed c.args.first.now c.args.second.now)
    (λ (pieces : List Piece). (text : Text) → Fit c.args.first.now text → Fit c.args.second.now (applied c.args.first.now text) → Fit pieces text)
    (λ pieces e text f s. subst (λ (ps : List Piece). Fit ps text) (sym e) (composed-fit c.args.first.now c.args.second.now text f s)) c.compose_at.ensures.value

pub returns-clause-lead : goal.returns-clause-lead
returns-clause-lead c =
    IfOk-weaker c.compose_at.result (λ (pieces : List Piece). pieces ≡ composed c.args.first.now c.args.second.now)
    (λ (pieces : List Piece). (text : Text) → Fit c.args.first.now text → Fit c.args.second.now (applied c.args.first.now text) → applied pieces text ≡ applied c.args.second.now (applied c.args.first.now text))
    (λ pieces e text f s. ap (λ (ps : List Piece). applied ps text) e ∙ composed-lead c.args.first.now c.args.second.now text f s) c.compose_at.ensures.value
