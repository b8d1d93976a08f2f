use Rattle.bib_journal.proofs.Words.{◌≡◌, List, [], ◌∷◌, ◌++◌, true, sym, subst, ◌∙◌, ap, Piece, Step, Leads, before, AreTurnable}
use Rattle.bib_journal.specs.Loading.{IsTurnable}
use Rattle.bib_journal.proofs.ReplayLemmas.{none_gone_back, one_gone_back, stuck_back}
use Rattle.history_spec.proofs.StepLemmas.{all_pop}
use Rattle.bib_journal.proofs.replay.go_back_over.Given.{Over}
use Rattle.bib_journal.proofs.replay.go_back_over.Goals as goal

pub step-init : goal.step-init
step-init g c = record { turnable = c.requires; gone = none_gone_back _ _ }

-- what is lent of the last step are its pieces
pieces_are : (g : Over) (c : goal.After-as_slice g) → c.as_slice.result.now ≡ c.in-Some.step.now.pieces
pieces_are g c = c.as_slice.ensures ∙ ap (λ (s : Step). s.pieces) c.step-in-Some.view_is

pub try_back-requires : goal.try_back-requires
try_back-requires g c =
    let split : c.step.left.now ≡ c.in-Some.others.now ++ c.in-Some.step.now ∷ [] = cc (c.in-Some.ensures.cases.0) in
    let last : IsTurnable c.in-Some.step.now.pieces =
    (all_pop (λ (s : Step). IsTurnable s.pieces) c.in-Some.others.now c.in-Some.step.now (subst AreTurnable split c.step.invariant.turnable)).1 in
    subst IsTurnable (sym (pieces_are g c)) last

pub returns-then-not-branch-clause-yes : goal.returns-then-not-branch-clause-yes
returns-then-not-branch-clause-yes g c =
    let split : c.step.left.now ≡ c.in-Some.others.now ++ c.in-Some.step.now ∷ [] = cc (c.in-Some.ensures.cases.0) in
    let is : c.as_slice.result.now ≡ c.in-Some.step.now.pieces = c.as_slice.ensures ∙ ap (λ (s : Step). s.pieces) c.step-in-Some.view_is in
    let no : Leads c.in-Some.step.now.pieces (before c.in-Some.step.now.pieces c.step.db) c.step.db → ⊥ =
    (λ l. let here : Leads c.as_slice.result.now (before c.as_slice.result.now c.step.db) c.step.db =
    subst (λ (ps : List Piece). Leads ps (before ps c.step.db) c.step.db) (sym is) l in
    let yes : c.in_ok-try_back.field-0 ≡ true = c.in_ok-try_back.ensures.yes.1 here in absurd (cc)) in
    (λ t. absurd (cc), λ w. absurd (stuck_back _ _ _ _ _ _ c.step.invariant.gone split no w))

pub step-preserved : goal.step-preserved
step-preserved g c =
    let split : c.step.left.now ≡ c.in-Some.others.now ++ c.in-Some.step.now ∷ [] = cc (c.in-Some.ensures.cases.0) in
    let is : c.as_slice.result.now ≡ c.in-Some.step.now.pieces = c.as_slice.ensures ∙ ap (λ (s : Step). s.pieces) c.step-in-Some.view_is in
    let leads : Leads c.in-Some.step.now.pieces (before c.in-Some.step.now.pieces c.step.db) c.step.db =
    subst (λ (ps : List Piece). Leads ps (before ps c.step.db) c.step.db) is (c.in_ok-try_back.ensures.yes.0 c.if-not-branch.false) in
    record {
      turnable = (all_pop (λ (s : Step). IsTurnable s.pieces) c.in-Some.others.now c.in-Some.step.now (subst AreTurnable split c.step.invariant.turnable)).0;
      gone = one_gone_back _ _ _ _ _ _ _ c.step.invariant.gone split leads
          (c.in_ok-try_back.ensures.back c.if-not-branch.false ∙ ap (λ (ps : List Piece). before ps c.step.db) is);
    }
