use Rattle.bib_journal.proofs.Words.{◌≡◌, ◌-◌, List, [], ◌∷◌, ◌++◌, length, reverse, Some, ◌∙◌, ap, subst, sym, arith, min, ◌^◌, Piece, Step, Leads, before, step_text_len, kept, NoStep, TakesBack}
use Rattle.std.specs.List.{slice_get}
use Rattle.bib_journal.proofs.Moves.{closed_knows, Moves, state, none_open, last_leads, taken_back, last-popped, counted_back}
use Rattle.bib_journal.proofs.session.Session.undo.Given.{Over}
use Rattle.bib_journal.proofs.session.Session.undo.Goals as goal

pub go_back-requires : goal.go_back-requires
go_back-requires g c =
    let top : Some c.in-Some.step.now ≡ slice_get c.self.inside.past.items (length c.self.inside.past.items - 1) = cc (c.in-Some.ensures.value) in
    let is : c.as_slice.result.now ≡ c.in-Some.step.now.pieces = c.as_slice.ensures ∙ ap (λ (s : Step). s.pieces) c.step.view_is in
    subst (λ (ps : List Piece). Leads ps (before ps c.self.inside.database) c.self.inside.database) (sym is)
    (last_leads c.self.inside.past.items (reverse c.self.inside.undone.items) c.in-Some.step.now _ c.self.invariant.sound top)

none : (g : Over) (c : goal.After-push_reserved g) → c.self.inside.current ≡ NoStep
none g c = c.is_none.ensures.0 c.if-not-is_none.false

text_is : (g : Over) (c : goal.After-push_reserved g) → c.step_text_len.result ≡ min (step_text_len c.in-Some-pop.step) (2 ^ 64 - 1)
text_is g c = cc (c.step_text_len.ensures, c.as_slice-2.ensures, c.as_slice-3.ensures, c.step-2.view_is)

moves : (g : Over) (c : goal.After-push_reserved g)
    → Moves TakesBack (state (kept c.self.inside.past.items c.self.inside.database (reverse c.self.inside.undone.items)) c.self.inside.current)
    (state (kept c.pop.new.self.items c.go_back.new.db (reverse c.push_reserved.new.self.items)) c.self.inside.current)
moves g c =
    let top : Some c.in-Some.step.now ≡ slice_get c.self.inside.past.items (length c.self.inside.past.items - 1) = cc (c.in-Some.ensures.value) in
    let split : c.self.inside.past.items ≡ c.pop.new.self.items ++ c.in-Some-pop.step ∷ [] = c.in-Some-pop.ensures.items in
    let is : c.as_slice.result.now ≡ c.in-Some.step.now.pieces = c.as_slice.ensures ∙ ap (λ (s : Step). s.pieces) c.step.view_is in
    let made : c.go_back.new.db ≡ before c.in-Some-pop.step.pieces c.self.inside.database =
    c.in_ok-go_back.ensures.ok ∙ ap (λ (ps : List Piece). before ps c.self.inside.database) (is ∙ ap (λ (s : Step). s.pieces) (last-popped _ _ _ _ top split)) in
    let pushed : c.push_reserved.new.self.items ≡ c.self.inside.undone.items ++ c.in-Some-pop.step ∷ [] = cc (c.in_ok-reserve.ensures.items) in
    taken_back _ _ _ _ c.in-Some-pop.step _ _ c.self.inside.current (none g c) c.self.invariant.sound split made pushed

pub invariant_of-self-2 : goal.invariant_of-self-2
invariant_of-self-2 g c = record {
  sound = (moves g c).sound;
  current = none_open (kept c.pop.new.self.items c.go_back.new.db (reverse c.push_reserved.new.self.items)) c.self.inside.current (none g c);
  counted = counted_back c.self.inside.past.items c.pop.new.self.items c.in-Some-pop.step c.self.inside.past_len c.step_text_len.result c.self.invariant.counted (text_is g c) c.in-Some-pop.ensures.items (omega (arith, c.self.invariant.sound.steps.short));
  placed = closed_knows c.self.inside.current c.pop.new.self.items c.self.inside.ends.items (none g c);
}

pub returns-clause-back : goal.returns-clause-back
returns-clause-back g c = rw (← c.self.view_is) ((moves g c).moved)
