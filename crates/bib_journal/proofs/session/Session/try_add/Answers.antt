use Rattle.bib_journal.proofs.Words.{List, true, Piece, ◌≡◌, ◌-◌, [], ◌∷◌, ◌++◌, reverse, rules, min, ◌^◌, sym, subst, ap, ◌∙◌, applied, KeptSteps, IsAllowed, IsFull, Adds, step_text_len, kept, SessionState, IsOpenIn, new_step, MakesSteps, LacksRoom, LastStep}
use Rattle.bib_journal.proofs.Moves.{none_known, steps_move, made_open, added_makes, added_room, has_room, counted_on}
use Rattle.bib_journal.proofs.session.Session.try_add.Given.{Over}
use Rattle.bib_journal.proofs.session.Session.try_add.Goals as goal

abbrev old_steps : (g : Over) → goal.After-forget g → KeptSteps
old_steps g c = kept c.self.inside.past.items c.self.inside.database (reverse c.self.inside.undone.items)

abbrev new_steps : (g : Over) → goal.After-forget g → KeptSteps
new_steps g c = kept c.push_reserved.new.self.items c.go_on_if_open.new.db (reverse c.forget.new.steps.items)

other : (g : Over) (c : goal.After-forget g) → c.self.inside.current ≡ LastStep → ⊥
other g c = λ e. c.requires (sym (ap (λ (s : SessionState). s.current) c.self.view_is) ∙ e)

leads : (g : Over) (c : goal.After-forget g) → c.in_ok-leads.leads ≡ true
leads g c = c.if-not-leads.false

allowed : (g : Over) (c : goal.After-forget g) → IsAllowed c.args.pieces c.self.inside.database
allowed g c = subst (λ (ps : List Piece). IsAllowed ps c.self.inside.database) c.as_slice-2.ensures (c.in_ok-leads.ensures.yes.0 (leads g c))

text_is : (g : Over) (c : goal.After-forget g) → c.step_text_len-text_len.result ≡ min (step_text_len (new_step c.self.inside.current c.args.pieces)) (2 ^ 64 - 1)
text_is g c = cc (c.step_text_len-text_len.ensures, c.next_label.ensures, c.as_slice.ensures)

pushed : (g : Over) (c : goal.After-forget g) → c.push_reserved.new.self.items ≡ c.self.inside.past.items ++ new_step c.self.inside.current c.args.pieces ∷ []
pushed g c = cc (c.push_reserved.ensures.items, c.in_ok-reserve.ensures.items, c.take_label-label.ensures.label)

makes : (g : Over) (c : goal.After-forget g) → MakesSteps c.self.inside.current c.args.pieces (old_steps g c) (new_steps g c)
makes g c =
    let made : c.go_on_if_open.new.db ≡ applied c.args.pieces c.self.inside.database = c.in_ok-leads.ensures.on (leads g c) ∙ ap (λ (ps : List Piece). applied ps c.self.inside.database) c.as_slice-2.ensures in
    let adds : Adds (new_step c.self.inside.current c.args.pieces) (old_steps g c) (new_steps g c) = record { past = pushed g c; present = made; future = ap reverse c.forget.ensures } in
    added_makes c.self.inside.current c.args.pieces (old_steps g c) (new_steps g c) (other g c) adds

room : (g : Over) (c : goal.After-forget g) → LacksRoom c.self.inside.current c.args.pieces (old_steps g c) → ⊥
room g c =
    let free : IsFull (old_steps g c) (new_step c.self.inside.current c.args.pieces) → ⊥ =
    has_room (old_steps g c) (new_step c.self.inside.current c.args.pieces) c.self.inside.past_len c.step_text_len-text_len.result c.saturating_add-len.result c.self.invariant.counted (text_is g c) c.saturating_add-len.ensures (search rules) (search rules) in
    added_room c.self.inside.current c.args.pieces (old_steps g c) (other g c) free

pub invariant_of-self-2 : goal.invariant_of-self-2
invariant_of-self-2 g c = record {
  sound = (steps_move c.self.inside.current c.args.pieces (old_steps g c) (new_steps g c) c.self.invariant.sound c.self.invariant.current (allowed g c) (room g c) (makes g c)).0;
  current = subst (IsOpenIn (new_steps g c)) (sym c.take_label-label.ensures.current) (made_open c.self.inside.current c.args.pieces (old_steps g c) (new_steps g c) c.self.invariant.current (makes g c));
  counted = counted_on c.self.inside.past.items c.push_reserved.new.self.items (new_step c.self.inside.current c.args.pieces) c.self.inside.past_len c.step_text_len-text_len.result c.saturating_add-len.result c.self.invariant.counted (text_is g c) c.saturating_add-len.ensures (search rules) (pushed g c);
  placed = none_known _ _ _ c.clear.ensures.items;
}

pub returns-clause-added : goal.returns-clause-added
returns-clause-added g c = λ yes. rw (← c.self.view_is) (makes g c)

pub returns-clause-room : goal.returns-clause-room
returns-clause-room g c = rw (← c.self.view_is) (room g c)
