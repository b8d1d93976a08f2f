use Rattle.bib_journal.proofs.Words.{◌≡◌, ◌-◌, List, [], ◌∷◌, ◌++◌, length, reverse, Some, ◌∙◌, ap, subst, sym, arith, min, ◌^◌, Piece, applied, Step, IsAllowed, step_text_len, kept, NoStep, MakesAgain}
use Rattle.std.specs.List.{slice_get}
use Rattle.bib_journal.proofs.Moves.{closed_knows, Moves, state, none_open, next_is_allowed, made_again, last-popped, counted_again}
use Rattle.bib_journal.proofs.session.Session.redo.Given.{Over}
use Rattle.bib_journal.proofs.session.Session.redo.Goals as goal

pub go_on-requires : goal.go_on-requires
go_on-requires g c =
    let top : Some c.in-Some.step.now ≡ slice_get c.self.inside.undone.items (length c.self.inside.undone.items - 1) = cc (c.in-Some.ensures.value) in
    let is : c.as_slice.result.now ≡ c.in-Some.step.now.pieces = c.as_slice.ensures ∙ ap (λ (s : Step). s.pieces) c.step.view_is in
    subst (λ (ps : List Piece). IsAllowed ps c.self.inside.database) (sym is)
    (next_is_allowed c.self.inside.past.items c.self.inside.undone.items c.in-Some.step.now _ c.self.invariant.sound top)

none : (g : Over) (c : goal.After-push_reserved g) → c.self.inside.current ≡ NoStep
none g c = c.is_none.ensures.0 c.if-not-is_none.false

text_is : (g : Over) (c : goal.After-push_reserved g) → c.step_text_len.result ≡ min (step_text_len c.in-Some-pop.step) (2 ^ 64 - 1)
text_is g c = cc (c.step_text_len.ensures, c.as_slice-2.ensures, c.as_slice-3.ensures, c.step-2.view_is)

moves : (g : Over) (c : goal.After-push_reserved g)
    → Moves MakesAgain (state (kept c.self.inside.past.items c.self.inside.database (reverse c.self.inside.undone.items)) c.self.inside.current)
    (state (kept c.push_reserved.new.self.items c.go_on.new.db (reverse c.pop.new.self.items)) c.self.inside.current)
moves g c =
    let top : Some c.in-Some.step.now ≡ slice_get c.self.inside.undone.items (length c.self.inside.undone.items - 1) = cc (c.in-Some.ensures.value) in
    let split : c.self.inside.undone.items ≡ c.pop.new.self.items ++ c.in-Some-pop.step ∷ [] = c.in-Some-pop.ensures.items in
    let is : c.as_slice.result.now ≡ c.in-Some.step.now.pieces = c.as_slice.ensures ∙ ap (λ (s : Step). s.pieces) c.step.view_is in
    let made : c.go_on.new.db ≡ applied c.in-Some-pop.step.pieces c.self.inside.database =
    c.in_ok-go_on.ensures.ok ∙ ap (λ (ps : List Piece). applied ps c.self.inside.database) (is ∙ ap (λ (s : Step). s.pieces) (last-popped _ _ _ _ top split)) in
    let pushed : c.push_reserved.new.self.items ≡ c.self.inside.past.items ++ c.in-Some-pop.step ∷ [] = cc (c.in_ok-reserve.ensures.items) in
    made_again _ _ _ _ c.in-Some-pop.step _ _ c.self.inside.current (none g c) c.self.invariant.sound split made pushed

pub invariant_of-self-2 : goal.invariant_of-self-2
invariant_of-self-2 g c = record {
  sound = (moves g c).sound;
  current = none_open (kept c.push_reserved.new.self.items c.go_on.new.db (reverse c.pop.new.self.items)) c.self.inside.current (none g c);
  counted = counted_again c.self.inside.past.items c.push_reserved.new.self.items c.in-Some-pop.step c.self.inside.past_len c.step_text_len.result c.self.invariant.counted (text_is g c) (cc (c.in_ok-reserve.ensures.items)) (omega (arith, (moves g c).sound.steps.short));
  placed = closed_knows c.self.inside.current c.push_reserved.new.self.items c.self.inside.ends.items (none g c);
}

pub returns-clause-again : goal.returns-clause-again
returns-clause-again g c = rw (← c.self.view_is) ((moves g c).moved)
