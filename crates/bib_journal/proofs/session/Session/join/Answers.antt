use Rattle.bib_journal.proofs.Words.{rules, ◌≡◌, ◌+◌, ◌-◌, ◌≤◌, inr, List, [], ◌∷◌, ◌++◌, reverse, sum_by, refl, sym, subst, ap, ◌∙◌, arith, Piece, applied, Step, KeptSteps, with_edit, IsAllowed, LeadTo, step_text_len, lead_to_pop, kept, SessionState, IsOpenIn, JoinsLast, MakesSteps, LacksRoom}
use Rattle.bib_journal.proofs.Words.{OpenStep, LastStep}
use Rattle.bib_journal.proofs.Moves.{steps_move, made_open, joined_makes, joined_room, counted_split, last_known, last_knows}
use Rattle.bib_journal.proofs.session.Session.join.Given.{Over}
use Rattle.bib_journal.proofs.session.Session.join.Goals as goal

pub grow-grown-requires-clause-leads : goal.grow-grown-requires-clause-leads
grow-grown-requires-clause-leads g c =
    (lead_to_pop c.pop.new.self.items c.in-Some.step c.self.inside.database
    (subst (λ (ss : List Step). LeadTo ss c.self.inside.database) c.in-Some.ensures.items c.self.invariant.sound.belong.back)).1

pub grow-grown-requires-clause-ends : goal.grow-grown-requires-clause-ends
grow-grown-requires-clause-ends g c =
    last_known c.self.inside.current c.self.inside.past.items c.pop.new.self.items c.in-Some.step c.self.inside.ends.items c.self.invariant.placed
    (ap (λ (s : SessionState). s.current) c.self.view_is ∙ c.requires.last) c.in-Some.ensures.items

pub grow-grown-requires-clause-len : goal.grow-grown-requires-clause-len
grow-grown-requires-clause-len g c =
    omega (arith, counted_split c.self.inside.past.items c.pop.new.self.items c.in-Some.step c.self.inside.past_len c.self.invariant.counted c.in-Some.ensures.items)

pub grow-grown-requires-clause-limit : goal.grow-grown-requires-clause-limit
grow-grown-requires-clause-limit g c = omega (arith, c.self.invariant.counted, c.self.invariant.sound.steps.short)

abbrev old_steps : (g : Over) → goal.After-drop-pieces-inside-2 g → KeptSteps
old_steps g c = kept c.self.inside.past.items c.self.inside.database (reverse c.self.inside.undone.items)

abbrev new_steps : (g : Over) → goal.After-drop-pieces-inside-2 g → KeptSteps
new_steps g c = kept c.push_reserved.new.self.items c.grow-grown.new.db (reverse c.self.inside.undone.items)

last : (g : Over) (c : goal.After-drop-pieces-inside-2 g) → c.self.inside.current ≡ LastStep
last g c = ap (λ (s : SessionState). s.current) c.self.view_is ∙ c.requires.last

allowed : (g : Over) (c : goal.After-drop-pieces-inside-2 g) → IsAllowed c.args.pieces c.self.inside.database
allowed g c = subst (λ (s : SessionState). IsAllowed c.args.pieces s.steps.present) (sym c.self.view_is) c.requires.allowed

-- the step with the pieces of this edit, which is the last of the past
grown : (g : Over) (c : goal.After-drop-pieces-inside-2 g) → c.grow-grown.new.step ≡ with_edit c.in-Some.step c.args.pieces
grown g c = c.in_ok-self-inside.ensures.grown ∙ ap (with_edit c.in-Some.step) c.as_slice.ensures

pushed : (g : Over) (c : goal.After-drop-pieces-inside-2 g) → c.push_reserved.new.self.items ≡ c.pop.new.self.items ++ with_edit c.in-Some.step c.args.pieces ∷ []
pushed g c = c.push_reserved.ensures.items ∙ ap (λ (s : Step). c.pop.new.self.items ++ s ∷ []) (grown g c)

-- the length of the texts, with the last step apart
split : (g : Over) (c : goal.After-drop-pieces-inside-2 g) → c.self.inside.past_len ≡ sum_by step_text_len c.pop.new.self.items + step_text_len c.in-Some.step
split g c = counted_split c.self.inside.past.items c.pop.new.self.items c.in-Some.step c.self.inside.past_len c.self.invariant.counted c.in-Some.ensures.items

len_is : (g : Over) (c : goal.After-drop-pieces-inside-2 g) → c.in_ok-self-inside.field-0 ≡ sum_by step_text_len c.pop.new.self.items + step_text_len (with_edit c.in-Some.step c.args.pieces)
len_is g c =
    omega (arith, split g c, c.in_ok-self-inside.ensures.len, ap (λ (ps : List Piece). step_text_len (with_edit c.in-Some.step ps)) c.as_slice.ensures)

makes : (g : Over) (c : goal.After-drop-pieces-inside-2 g) → JoinsLast c.args.pieces (old_steps g c) (new_steps g c)
makes g c =
    joined_makes c.self.inside.past.items c.push_reserved.new.self.items c.pop.new.self.items (reverse c.self.inside.undone.items) c.in-Some.step (with_edit c.in-Some.step c.args.pieces)
    c.self.inside.database c.grow-grown.new.db c.args.pieces c.in-Some.ensures.items (pushed g c) refl
    (c.in_ok-self-inside.ensures.made ∙ ap (λ (ps : List Piece). applied ps c.self.inside.database) c.as_slice.ensures)

room : (g : Over) (c : goal.After-drop-pieces-inside-2 g) → LacksRoom LastStep c.args.pieces (old_steps g c) → ⊥
room g c =
    let short : sum_by step_text_len c.pop.new.self.items ≤ 67174399 = omega (arith, split g c, c.self.invariant.counted, c.self.invariant.sound.steps.short) in
    joined_room c.self.inside.past.items c.pop.new.self.items (reverse c.self.inside.undone.items) c.in-Some.step c.self.inside.database c.args.pieces
    (67174399 - sum_by step_text_len c.pop.new.self.items) c.in-Some.ensures.items refl short
    (omega (arith, c.in_ok-self-inside.ensures.short, len_is g c))

pub invariant_of-self-2 : goal.invariant_of-self-2
invariant_of-self-2 g c =
    let was : IsOpenIn (old_steps g c) LastStep = subst (IsOpenIn (old_steps g c)) (last g c) c.self.invariant.current in
    record {
      sound = (steps_move LastStep c.args.pieces (old_steps g c) (new_steps g c) c.self.invariant.sound was (allowed g c) (room g c) (makes g c)).0;
      current = subst (IsOpenIn (new_steps g c)) (sym (last g c)) (made_open LastStep c.args.pieces (old_steps g c) (new_steps g c) was (makes g c));
      counted = len_is g c ∙ sym (counted_split c.push_reserved.new.self.items c.pop.new.self.items (with_edit c.in-Some.step c.args.pieces) _ refl (pushed g c));
      placed = last_knows c.self.inside.current c.push_reserved.new.self.items c.pop.new.self.items c.grow-grown.new.step c.grow-grown.new.ends.items (last g c) (search rules)
          (inr c.in_ok-self-inside.ensures.ends);
    }

pub returns-clause-joined : goal.returns-clause-joined
returns-clause-joined g c =
    rw (← c.self.view_is) (subst (λ (o : OpenStep). MakesSteps o c.args.pieces (old_steps g c) (new_steps g c)) (sym (last g c)) (makes g c))

pub returns-clause-room : goal.returns-clause-room
returns-clause-room g c =
    rw (← c.self.view_is) (subst (λ (o : OpenStep). LacksRoom o c.args.pieces (old_steps g c) → ⊥) (sym (last g c)) (room g c))
