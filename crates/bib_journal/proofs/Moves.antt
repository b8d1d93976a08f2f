-- What a session keeps, before and after each of its moves.
use Rattle.bib_journal.proofs.Words.{◌≡◌, ◌⊎◌, ℕ, ◌+◌, ◌-◌, ◌^◌, ◌≤◌, ◌<◌, List, [], ◌∷◌, ◌++◌, length, min, take, get_or, reverse, Some, sym, ◌∙◌, ap, subst, arith, refl, sum_by, inl, inr, OnOk, length_push, same_from_push, take_more, Text, Piece, Fit, applied, Reading, Reads, bytes_of, Undoes}
use Rattle.bib_journal.proofs.Words.{Step, KeptSteps, with_edit, before, Leads, LeadTo, LeadOn, IsAllowed, IsSound, IsFull, Adds, GoesBack, GoesOn, history_of, step_text_len, IsOpenable, lead_to_pop, going-back-undoes, going-on-redoes, Edit, made_base, AsksFor, IsAllowedEdit}
use Rattle.bib_journal.proofs.Words.{ArePiecesOf, asked_for, has_key_base, kept, SessionState, IsOpenIn, after_edit, new_step, JoinsLast, MakesSteps, LacksRoom, MovesTo, MakesEdit, TakesBack, MakesAgain, OpenStep, NoStep, NewStep, LastStep}
use Rattle.std.specs.Prelude.{Result, Ok, Err}
use Rattle.std.specs.List.{slice_get}
use Rattle.std.proofs.lemmas.List.{get_or_push, reverse-append, take_all}
use Rattle.std.proofs.lemmas.List.Sums.{sum_by_push}
use Rattle.std.proofs.lemmas.Option.{slice_get_within, get_or_from_slice_get}
use Rattle.history_spec.specs.History.{Redoes}
use Rattle.edit_spec.specs.Edits as edits
use Rattle.edit_spec.specs.Edits.{edited}
use Rattle.edit_spec.specs.EditChunks.{pieces_of}
use Rattle.history_spec.specs.Steps.{IsLabel, IsOverlong}
use Rattle.history_spec.proofs.StepLemmas.{adding-edits, joining-amends}
use Rattle.edit_spec.proofs.EditFiles.{pieces-lead}
use Rattle.edit_spec.proofs.EditedReads.{applied-opens}
use Rattle.history_spec.specs.Composing.{AreEnds}
use Rattle.bib_data.specs.declared.position.Position.{Position}
use Rattle.bib_edit.specs.Insertions.{IsAllowedInsertion}
use Rattle.bib_edit.proofs.Inserted.{planned-lead, planned-open}
use Rattle.bib_data.specs.declared.position.Position.TheVariants.{Number, End, Before, After}
use Rattle.bib_edit.specs.declared.fault.EditFault.{EditFault}
use Rattle.bib_edit.specs.declared.fault.EditFault.TheVariants as edit_fault
use Rattle.bib_edit.specs.Planning.{IsRefusal}
use Rattle.bib_edit.specs.Positions.{IsPlaceOf, IsCountFault, IsPositionRefusal, ArePiecesAt, IsAllowedAt, IsRefusalAt, edit_at}
use Rattle.bib_journal.specs.Faults.{refused}
use Rattle.bib_journal.specs.declared.fault.SessionFault.{SessionFault}
use Rattle.bib_journal.specs.declared.fault.SessionFault.TheVariants.{Refused, JournalFull, Memory}
use Rattle.bib_journal.specs.Session.{MakesInsertion, RefusesPieces, RefusesInsertion, RefusesEdit, MakesEditAt, RefusesEditAt, PlansInsertion, Inserts}
use Rattle.bib_journal.specs.Kept.{KnowsEnds}

-- ---- the two stacks

-- what is on top of the stack is what is taken off it
pub last-popped : {X : Type 0} (xs rest : List X) (s s' : X) → Some s ≡ slice_get xs (length xs - 1) → xs ≡ rest ++ s' ∷ [] → s ≡ s'
last-popped xs rest s s' e split =
    let at : length xs - 1 ≡ length rest = omega (arith, ap length split, length_push rest s') in
    let top : get_or xs (length xs - 1) s ≡ s = get_or_from_slice_get xs (length xs - 1) s s (sym e) in
    sym top ∙ ap (λ n. get_or xs n s) at ∙ ap (λ ys. get_or ys (length rest) s) split ∙ get_or_push rest s' s (length rest) refl

-- the undone steps stand on their stack with the next on top
future_push : (stack stack' : List Step) (s : Step) → stack' ≡ stack ++ s ∷ [] → reverse stack' ≡ s ∷ reverse stack
future_push stack stack' s e = ap reverse e ∙ reverse-append stack (s ∷ [])

last_split : (steps : List Step) (s : Step) → Some s ≡ slice_get steps (length steps - 1) → steps ≡ take (length steps - 1) steps ++ s ∷ []
last_split steps s top =
    let within : length steps - 1 < length steps = slice_get_within steps (length steps - 1) s (sym top) in
    let whole : (length steps - 1) + 1 ≡ length steps = omega arith in
    sym (take_all (length steps) steps (omega arith)) ∙ ap (λ n. take n steps) (sym whole) ∙ take_more steps (length steps - 1) s within
    ∙ ap (λ x. take (length steps - 1) steps ++ x ∷ []) (get_or_from_slice_get steps (length steps - 1) s s (sym top))

-- the last past step leads to the present
pub last_leads : (past future : List Step) (s : Step) (present : Text)
    → IsSound (kept past present future) → Some s ≡ slice_get past (length past - 1) → Leads s.pieces (before s.pieces present) present
last_leads past future s present w top =
    let rest : List Step = take (length past - 1) past in
    (lead_to_pop rest s present (subst (λ (ss : List Step). LeadTo ss present) (last_split past s top) w.belong.back)).1

-- the next future step leads on from the present
pub next_is_allowed : (past stack : List Step) (s : Step) (present : Text)
    → IsSound (kept past present (reverse stack)) → Some s ≡ slice_get stack (length stack - 1) → IsAllowed s.pieces present
next_is_allowed past stack s present w top =
    let rest : List Step = take (length stack - 1) stack in
    let next : reverse stack ≡ s ∷ reverse rest = future_push rest stack s (last_split stack s top) in
    let on : LeadOn (s ∷ reverse rest) present = subst (λ (ss : List Step). LeadOn ss present) next w.belong.on in
    record { fit = on.0.fit; made = on.0.new_is_file }

-- ---- undo and redo

-- the session is sound again, and moved so
pub record Moves (Move : SessionState → SessionState → Type 0) (old new : SessionState) : Type 0 where
  pub sound : IsSound new.steps
  pub moved : Move old new

abbrev pub state : KeptSteps → OpenStep → SessionState
state steps current = record { steps = steps; current = current }

pub taken_back : (past rest stack stack' : List Step) (s : Step) (b b' : Text) (current : OpenStep) → current ≡ NoStep
    → IsSound (kept past b (reverse stack)) → past ≡ rest ++ s ∷ [] → b' ≡ before s.pieces b → stack' ≡ stack ++ s ∷ []
    → Moves TakesBack (state (kept past b (reverse stack)) current) (state (kept rest b' (reverse stack')) current)
taken_back past rest stack stack' s b b' current none w split made pushed =
    let old : KeptSteps = kept past b (reverse stack) in
    let new : KeptSteps = kept rest b' (reverse stack') in
    let goes : GoesBack s old new = record { past = split; present = made; future = future_push stack stack' s pushed } in
    let both : IsSound new × Undoes (history_of old) (history_of new) = going-back-undoes s old new w goes in
    record { sound = both.0; moved = record { step = s; closed = none; still = none; carried = goes; file = both.1 } }

pub made_again : (past past' stack rest : List Step) (s : Step) (b b' : Text) (current : OpenStep) → current ≡ NoStep
    → IsSound (kept past b (reverse stack)) → stack ≡ rest ++ s ∷ [] → b' ≡ applied s.pieces b → past' ≡ past ++ s ∷ []
    → Moves MakesAgain (state (kept past b (reverse stack)) current) (state (kept past' b' (reverse rest)) current)
made_again past past' stack rest s b b' current none w split made pushed =
    let old : KeptSteps = kept past b (reverse stack) in
    let new : KeptSteps = kept past' b' (reverse rest) in
    let goes : GoesOn s old new = record { past = pushed; present = made; future = future_push rest stack s split } in
    let both : IsSound new × Redoes (history_of old) (history_of new) = going-on-redoes s old new w goes in
    record { sound = both.0; moved = record { step = s; closed = none; still = none; carried = goes; file = both.1 } }

-- where no step is open, nothing is asked of it
pub none_open : (steps : KeptSteps) (current : OpenStep) → current ≡ NoStep → IsOpenIn steps current
none_open steps current none = subst (IsOpenIn steps) (sym none) tt

-- ---- edits

-- the pieces of an edit that nothing refuses lead from the file to another
pub planned_leads : (file : Text) (edit : Edit) (pieces : List Piece) → IsOpenable file → IsAllowedEdit file edit → ArePiecesOf file edit pieces → IsAllowed pieces file
planned_leads file edit pieces is allowed planned =
    let db : Reading = is.0 in
    let reads : Reads file db = is.1.reads in
    let one : (e : edits.Edit) × AsksFor edit e = asked_for edit in
    let e : edits.Edit = one.0 in
    let same : pieces_of made_base db e ≡ pieces = sym (planned db reads e one.1) in
    let fits : Fit (pieces_of made_base db e) file = subst (λ (t : Text). Fit (pieces_of made_base db e) t) reads.bytes (pieces-lead made_base db e).0 in
    record {
      fit = subst (λ (ps : List Piece). Fit ps file) same fits;
      made = subst (λ (ps : List Piece). IsOpenable (applied ps file)) same
          (edited made_base db e, applied-opens made_base file db e (has_key_base e) reads (allowed db reads e one.1));
    }

-- the file that the pieces of the edit make
planned_file : (file : Text) (db : Reading) (e : edits.Edit) (pieces : List Piece) → Reads file db → pieces ≡ pieces_of made_base db e
    → applied pieces file ≡ bytes_of (edited made_base db e)
planned_file file db e pieces reads same =
    ap (λ (ps : List Piece). applied ps file) same ∙ ap (λ (t : Text). applied (pieces_of made_base db e) t) (sym reads.bytes) ∙ (pieces-lead made_base db e).1

-- the empty text is a label
pub no_label : IsLabel []
no_label = record { short = omega arith; plain = refl }

-- pieces that are allowed, and make new steps of the old, keep these sound, and move the history to the file that they make
pub steps_move : (current : OpenStep) (pieces : List Piece) (old new : KeptSteps) → IsSound old → IsOpenIn old current → IsAllowed pieces old.present → (LacksRoom current pieces old → ⊥)
    → MakesSteps current pieces old new → IsSound new × MovesTo current (applied pieces old.present) (history_of old) (history_of new)
steps_move NoStep pieces old new w o allowed room makes = adding-edits (new_step NoStep pieces) old new w no_label allowed room makes
steps_move (NewStep label) pieces old new w o allowed room makes = adding-edits (new_step (NewStep label) pieces) old new w o allowed room makes
steps_move LastStep pieces old new w o allowed room makes =
    joining-amends makes.0 makes.1 pieces old new w o.1 allowed (λ long. room (makes.0, makes.1, makes.2.last, long)) makes.2

-- after an edit, a step that was opened is the last of the past, and nothing can be redone
pub made_open : (current : OpenStep) (pieces : List Piece) (old new : KeptSteps) → IsOpenIn old current → MakesSteps current pieces old new → IsOpenIn new (after_edit current)
made_open NoStep pieces old new o makes = tt
made_open (NewStep label) pieces old new o makes =
    ((λ none. omega (arith, ap length none, ap length makes.past, length_push old.past (new_step (NewStep label) pieces))), makes.future)
made_open LastStep pieces old new o makes =
    ((λ none. omega (arith, ap length none, ap length makes.2.past, length_push makes.0 (with_edit makes.1 pieces))), makes.2.future ∙ o.1)

-- the first edit of a step, and one by itself, add a step
pub added_makes : (current : OpenStep) (pieces : List Piece) (old new : KeptSteps) → (current ≡ LastStep → ⊥) → Adds (new_step current pieces) old new → MakesSteps current pieces old new
added_makes NoStep pieces old new other adds = adds
added_makes (NewStep label) pieces old new other adds = adds
added_makes LastStep pieces old new other adds = absurd (other refl)

pub added_room : (current : OpenStep) (pieces : List Piece) (old : KeptSteps) → (current ≡ LastStep → ⊥) → (IsFull old (new_step current pieces) → ⊥) → LacksRoom current pieces old → ⊥
added_room NoStep pieces old other room full = room full
added_room (NewStep label) pieces old other room full = room full
added_room LastStep pieces old other room full = other refl

-- the pieces of an edit that nothing refuses, made so, make the edit
pub made_edit : (edit : Edit) (pieces : List Piece) (old new : SessionState) → IsSound old.steps → IsOpenIn old.steps old.current → IsAllowedEdit old.steps.present edit
    → ArePiecesOf old.steps.present edit pieces → (LacksRoom old.current pieces old.steps → ⊥) → MakesSteps old.current pieces old.steps new.steps → new.current ≡ after_edit old.current
    → MakesEdit edit old new
made_edit edit pieces old new w o allowed planned room makes current =
    let both : IsSound new.steps × MovesTo old.current (applied pieces old.steps.present) (history_of old.steps) (history_of new.steps) =
    steps_move old.current pieces old.steps new.steps w o (planned_leads old.steps.present edit pieces w.present allowed planned) room makes in
    record {
      allowed = allowed;
      pieces = pieces;
      planned = planned;
      room = room;
      step = makes;
      file = λ db reads e asks. subst (λ (t : Text). MovesTo old.current t (history_of old.steps) (history_of new.steps)) (planned_file old.steps.present db e pieces reads (planned db reads e asks)) both.1;
      current = current;
    }

-- ---- edits at a position

-- the place of an edit at a position: its pieces are those of the edit there, and nothing refuses it
pub record IsPlaced (file : Text) (position : Position) (edit : Edit) (pieces : List Piece) : Type 0 where
  pub place : ℕ
  pub said : IsPlaceOf file position edit place
  pub pieces_are : ArePiecesOf file (edit_at place edit) pieces
  pub allowed : IsAllowedEdit file (edit_at place edit)

pub placed : (file : Text) (position : Position) (edit : Edit) (pieces : List Piece) → IsOpenable file → ArePiecesAt file position edit pieces → IsAllowedAt file position edit
    → IsPlaced file position edit pieces
placed file position edit pieces opens are allowed = record {
  place = are.0;
  said = are.1;
  pieces_are = are.2;
  allowed = subst (λ (n : ℕ). IsAllowedEdit file (edit_at n edit)) ((allowed.1 opens.0 opens.1.reads).1 ∙ sym (are.1 opens.0 opens.1.reads).1) allowed.2;
}

pub placed_leads : (file : Text) (position : Position) (edit : Edit) (pieces : List Piece) → IsOpenable file → IsPlaced file position edit pieces → IsAllowed pieces file
placed_leads file position edit pieces opens is = planned_leads file (edit_at is.place edit) pieces opens is.allowed is.pieces_are

-- the pieces of an edit at a position that nothing refuses, made so, make the edit there
pub made_edit_at : (position : Position) (edit : Edit) (pieces : List Piece) (old new : SessionState) → IsSound old.steps → IsOpenIn old.steps old.current
    → IsPlaced old.steps.present position edit pieces → (LacksRoom old.current pieces old.steps → ⊥) → MakesSteps old.current pieces old.steps new.steps → new.current ≡ after_edit old.current
    → MakesEditAt position edit old new
made_edit_at position edit pieces old new w o is room makes current = record {
  place = is.place;
  said = is.said;
  made = made_edit (edit_at is.place edit) pieces old new w o is.allowed is.pieces_are room makes current;
}

-- a refused edit, as a session tells it
refused_edit : (fault : EditFault) (edit : Edit) (state : SessionState) → IsRefusal state.steps.present edit fault → RefusesEdit (refused fault) edit state
refused_edit edit_fault.Memory edit state why = tt
refused_edit edit_fault.BadKey edit state why = ((λ e. absurd (cc (e))), why)
refused_edit edit_fault.BadName edit state why = ((λ e. absurd (cc (e))), why)
refused_edit edit_fault.BadValue edit state why = ((λ e. absurd (cc (e))), why)
refused_edit edit_fault.BadPosition edit state why = ((λ e. absurd (cc (e))), why)
refused_edit edit_fault.NotFound edit state why = ((λ e. absurd (cc (e))), why)
refused_edit edit_fault.Ambiguous edit state why = ((λ e. absurd (cc (e))), why)
refused_edit edit_fault.KeyInUse edit state why = ((λ e. absurd (cc (e))), why)
refused_edit edit_fault.NameInUse edit state why = ((λ e. absurd (cc (e))), why)
refused_edit edit_fault.Referred edit state why = ((λ e. absurd (cc (e))), why)
refused_edit edit_fault.WouldMerge edit state why = ((λ e. absurd (cc (e))), why)
refused_edit edit_fault.FileTooLong edit state why = ((λ e. absurd (cc (e))), why)
refused_edit edit_fault.TextTooLong edit state why = ((λ e. absurd (cc (e))), why)

-- a position is refused since by its key no entry is meant, or several are
pub told_position : (position : Position) (file : Text) (fault : EditFault) → IsPositionRefusal file position fault → refused fault ≡ Refused fault
told_position (Number n) file fault why = absurd why
told_position End file fault why = absurd why
told_position (Before key) file fault (IsCountFault.none_meant none) = refl
told_position (Before key) file fault (IsCountFault.many_meant many) = refl
told_position (After key) file fault (IsCountFault.none_meant none) = refl
told_position (After key) file fault (IsCountFault.many_meant many) = refl

-- a refused edit at a position, as a session tells it
pub refused_at : (position : Position) (edit : Edit) (fault : EditFault) (state : SessionState) → IsRefusalAt state.steps.present position edit fault → RefusesEditAt (refused fault) position edit state
refused_at position edit fault state (inl why) = inl (record { own = fault; told = told_position position state.steps.present fault why; refused = why })
refused_at position edit fault state (inr there) = inr (record { place = there.0; said = there.1; refused = refused_edit fault (edit_at there.0 edit) state there.2 })

-- ---- insertions

-- the pieces of an insertion that nothing refuses lead from the file to another
pub insertion_leads : (position : Position) (file text : Text) (pieces : List Piece) (plan : PlansInsertion position file text pieces)
    → IsAllowedInsertion file text plan.place → IsAllowed pieces file
insertion_leads position file text pieces plan allowed = record {
  fit = planned-lead.fit file text plan.place pieces plan.planned;
  made = planned-open.opens file text plan.place pieces plan.planned allowed;
}

-- the pieces of a planned insertion, made a step, put the text in
pub made_insertion : (position : Position) (text : Text) (pieces : List Piece) (old new : SessionState) → IsSound old.steps → old.current ≡ NoStep
    → PlansInsertion position old.steps.present text pieces → MakesInsertion pieces old new → Inserts position text old new
made_insertion position text pieces old new w none plan made =
    let file : Text = old.steps.present in
    let both : IsSound new.steps × MovesTo NoStep (applied pieces file) (history_of old.steps) (history_of new.steps) =
    steps_move NoStep pieces old.steps new.steps w tt made.leads made.room made.step in
    record {
      closed = none;
      still = made.still;
      pieces = pieces;
      plan = plan;
      allowed = planned-open.allowed file text plan.place pieces plan.planned made.leads.made;
      room = made.room;
      step = made.step;
      file = λ db reads added reads'. subst (λ (t : Text). MovesTo NoStep t (history_of old.steps) (history_of new.steps))
          (planned-lead.lead file text plan.place pieces plan.planned db reads added reads') both.1;
    }

-- pieces that are made a step, where none is open
pub made_pieces : (pieces : List Piece) (old new : SessionState) → old.current ≡ NoStep → IsAllowed pieces old.steps.present → (LacksRoom old.current pieces old.steps → ⊥)
    → MakesSteps old.current pieces old.steps new.steps → new.current ≡ after_edit old.current → MakesInsertion pieces old new
made_pieces pieces old new none leads room makes current = record {
  leads = leads;
  room = subst (λ (o : OpenStep). LacksRoom o pieces old.steps → ⊥) none room;
  step = subst (λ (o : OpenStep). MakesSteps o pieces old.steps new.steps) none makes;
  still = current ∙ ap after_edit none;
}

-- why pieces are not kept, where no step is open
pub unkept_pieces : (pieces : List Piece) (state : SessionState) (fault : SessionFault) → state.current ≡ NoStep → (fault ≡ JournalFull) ⊎ (fault ≡ Memory)
    → (fault ≡ JournalFull → LacksRoom state.current pieces state.steps) → RefusesPieces pieces state fault
unkept_pieces pieces state fault none (inl e) full =
    subst (λ (f : SessionFault). RefusesPieces pieces state f) (sym e) (RefusesPieces.overfull (subst (λ (o : OpenStep). LacksRoom o pieces state.steps) none (full e)))
unkept_pieces pieces state fault none (inr e) full = subst (λ (f : SessionFault). RefusesPieces pieces state f) (sym e) RefusesPieces.no_memory

-- pieces that are refused, of an insertion that is planned
pub refused_pieces : (position : Position) (text : Text) (pieces : List Piece) (state : SessionState) (fault : SessionFault) → state.current ≡ NoStep
    → PlansInsertion position state.steps.present text pieces → RefusesPieces pieces state fault → RefusesInsertion position text state fault
refused_pieces position text pieces state _ none plan (RefusesPieces.overfull full) = RefusesInsertion.full none (record { pieces = pieces; plan = plan; full = full })
refused_pieces position text pieces state _ none plan (RefusesPieces.unopenable room unopenable) =
    RefusesInsertion.long none (record {
      pieces = pieces;
      plan = plan;
      room = room;
      long = planned-open.refused state.steps.present text plan.place pieces plan.planned
          (λ opens. unopenable (record { fit = planned-lead.fit state.steps.present text plan.place pieces plan.planned; made = opens }));
    })
refused_pieces position text pieces state _ none plan RefusesPieces.no_memory = RefusesInsertion.unplanned Memory none tt

-- what follows from three facts, where a call is accepted
pub where_accepted : {T E P Q R S : Type 0} (r : Result T E) → (P → Q → R → S) → OnOk r P → OnOk r Q → OnOk r R → OnOk r S
where_accepted (Ok x) f p q s = f p q s
where_accepted (Err e) f p q s = tt

-- ---- the last step

-- a list that ends with one member ends with no other
last_is : (front front' : List Step) (s s' : Step) → front ++ s ∷ [] ≡ front' ++ s' ∷ [] → (front' ≡ front) × (s' ≡ s)
last_is front front' s s' e = same_from_push front' front s' s (sym e)

-- the last step with more pieces makes the new steps, where these are made of the file
pub joined_makes : (past past' front future : List Step) (s s' : Step) (b b' : Text) (pieces : List Piece) → past ≡ front ++ s ∷ [] → past' ≡ front ++ s' ∷ [] → s' ≡ with_edit s pieces
    → b' ≡ applied pieces b → JoinsLast pieces (kept past b future) (kept past' b' future)
joined_makes past past' front future s s' b b' pieces split pushed grown made =
    (front, s, record { last = split; past = pushed ∙ ap (λ (x : Step). front ++ x ∷ []) grown; present = made; future = refl })

pub joined_room : (past front future : List Step) (s : Step) (b : Text) (pieces : List Piece) (room : ℕ) → past ≡ front ++ s ∷ [] → room ≡ 67174399 - sum_by step_text_len front
    → sum_by step_text_len front ≤ 67174399 → step_text_len (with_edit s pieces) ≤ room → LacksRoom LastStep pieces (kept past b future) → ⊥
joined_room past front future s b pieces room split is short fits long =
    let same : (long.0 ≡ front) × (long.1 ≡ s) = last_is front long.0 s long.1 (sym split ∙ long.2) in
    let over : IsOverlong front (with_edit s pieces) = subst (λ (fs : List Step). IsOverlong fs (with_edit s pieces)) same.0 (subst (λ (x : Step). IsOverlong long.0 (with_edit x pieces)) same.1 long.3) in
    omega (arith, over, is, short, fits)

-- ---- the test of the limits

pub has_room : (k : KeptSteps) (step : Step) (past_len text_len len : ℕ) → past_len ≡ sum_by step_text_len k.past → text_len ≡ min (step_text_len step) (2 ^ 64 - 1)
    → len ≡ min (past_len + text_len) (2 ^ 64 - 1) → length k.past < 65535 → len ≤ 67174399 → IsFull k step → ⊥
has_room k step past_len text_len len counted one both few short (inl many) = omega arith
has_room k step past_len text_len len counted one both few short (inr long) = omega arith

-- the running count after a change
pub counted_on : (past past' : List Step) (step : Step) (past_len text_len len : ℕ) → past_len ≡ sum_by step_text_len past → text_len ≡ min (step_text_len step) (2 ^ 64 - 1)
    → len ≡ min (past_len + text_len) (2 ^ 64 - 1) → len ≤ 67174399 → past' ≡ past ++ step ∷ [] → len ≡ sum_by step_text_len past'
counted_on past past' step past_len text_len len counted one both short pushed =
    let total : sum_by step_text_len past' ≡ sum_by step_text_len past + step_text_len step = ap (sum_by step_text_len) pushed ∙ sum_by_push step_text_len past step in
    omega arith

pub counted_back : (past rest : List Step) (step : Step) (past_len text_len : ℕ) → past_len ≡ sum_by step_text_len past → text_len ≡ min (step_text_len step) (2 ^ 64 - 1)
    → past ≡ rest ++ step ∷ [] → sum_by step_text_len past ≤ 67174399 → past_len - text_len ≡ sum_by step_text_len rest
counted_back past rest step past_len text_len counted one split short =
    let total : sum_by step_text_len past ≡ sum_by step_text_len rest + step_text_len step = ap (sum_by step_text_len) split ∙ sum_by_push step_text_len rest step in
    omega arith

pub counted_again : (past past' : List Step) (step : Step) (past_len text_len : ℕ) → past_len ≡ sum_by step_text_len past → text_len ≡ min (step_text_len step) (2 ^ 64 - 1)
    → past' ≡ past ++ step ∷ [] → sum_by step_text_len past' ≤ 67174399 → past_len + text_len ≡ sum_by step_text_len past'
counted_again past past' step past_len text_len counted one pushed short =
    let total : sum_by step_text_len past' ≡ sum_by step_text_len past + step_text_len step = ap (sum_by step_text_len) pushed ∙ sum_by_push step_text_len past step in
    omega arith

-- ---- where the pieces of the step that is open end

pub none_known : (current : OpenStep) (past : List Step) (ends : List ℕ) → ends ≡ [] → KnowsEnds current past ends
none_known NoStep past ends e = tt
none_known (NewStep label) past ends e = tt
none_known LastStep past ends e = λ front step split. inl e

pub closed_knows : (current : OpenStep) (past : List Step) (ends : List ℕ) → current ≡ NoStep → KnowsEnds current past ends
closed_knows current past ends none = subst (λ (o : OpenStep). KnowsEnds o past ends) (sym none) tt

pub last_knows : (current : OpenStep) (past front : List Step) (step : Step) (ends : List ℕ) → current ≡ LastStep → past ≡ front ++ step ∷ [] → (ends ≡ []) ⊎ AreEnds step.pieces ends
    → KnowsEnds current past ends
last_knows current past front step ends last split e =
    subst (λ (o : OpenStep). KnowsEnds o past ends) (sym last)
    (λ other s is. subst (λ (t : Step). (ends ≡ []) ⊎ AreEnds t.pieces ends) (sym (last_is front other step s (sym split ∙ is)).1) e)

pub last_known : (current : OpenStep) (past front : List Step) (step : Step) (ends : List ℕ) → KnowsEnds current past ends → current ≡ LastStep → past ≡ front ++ step ∷ []
    → (ends ≡ []) ⊎ AreEnds step.pieces ends
last_known current past front step ends k last split = subst (λ (o : OpenStep). KnowsEnds o past ends) last k front step split

pub counted_split : (past front : List Step) (step : Step) (past_len : ℕ) → past_len ≡ sum_by step_text_len past → past ≡ front ++ step ∷ [] → past_len ≡ sum_by step_text_len front + step_text_len step
counted_split past front step past_len counted split = counted ∙ ap (sum_by step_text_len) split ∙ sum_by_push step_text_len front step
