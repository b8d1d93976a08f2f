-- Steps of a journal, gone over one by one.
use Rattle.bib_journal.proofs.Words.{◌≡◌, ℕ, ◌+◌, ◌<◌, ◌≤◌, List, [], ◌∷◌, ◌++◌, length, take, drop, zero, suc, get_or, sym, ◌∙◌, ap, subst, refl, arith, drop_more, take_more, Text, Piece, Fit, applied, reversed, IsOpenable, Step, before, first_of, IsAllowed, Leads, LeadTo, LeadOn, fit_back, lead_to_pop, steps-lead-back, last_of, AreTurnable}
use Rattle.std.proofs.Common.{◌-◌, Some, slice_get, length-take}
use Rattle.std.proofs.lemmas.Option.{get_or_from_slice_get}
use Rattle.std.proofs.lemmas.List.{drop-append-le, drop_all, take_all}
use Rattle.bib_spec.specs.Pieces.{IsAscending}
use Rattle.bib_journal.specs.Loading.{IsTurnable}
use Rattle.bib_spec.proofs.WayBack.{applied-reversed, reversed-reversed}
use Rattle.history_spec.proofs.StepLemmas.{first_of-push, lead_to_push, before-made}

-- ---- back

-- where the way back is allowed, the step leads here
leads_here : (step : List Piece) (new : Text) → IsAscending step → IsOpenable new → IsAllowed (reversed step) new → Leads step (before step new) new
leads_here step new up f a =
    let twice : reversed (reversed step) ≡ step = reversed-reversed step up in
    record {
      fit = subst (λ (s : List Piece). Fit s (before step new)) twice (fit_back (reversed step) new a.fit);
      made = ap (λ (s : List Piece). applied s (before step new)) (sym twice) ∙ applied-reversed (reversed step) new a.fit;
      old_is_file = a.made;
      new_is_file = f;
    }

pub back_is_tested : (step back : List Piece) (new : Text) → IsAscending step → IsOpenable new → back ≡ reversed step → IsAllowed back new → Leads step (before step new) new
back_is_tested step back new up f e a = leads_here step new up f (subst (λ (s : List Piece). IsAllowed s new) e a)

pub back_is_allowed : (step back : List Piece) (new : Text) → back ≡ reversed step → Leads step (before step new) new → IsAllowed back new
back_is_allowed step back new e l = subst (λ (s : List Piece). IsAllowed s new) (sym e) (steps-lead-back step (before step new) new l).0

-- what the loop back keeps: the steps that are left lead to the file that is reached where all lead to the last
pub record AreGoneBack (steps left : List Step) (last now : Text) : Type 0 where
  pub there : LeadTo steps last → LeadTo left now
  pub here : LeadTo left now → LeadTo steps last
  pub first : first_of left now ≡ first_of steps last

pub none_gone_back : (steps : List Step) (last : Text) → AreGoneBack steps steps last last
none_gone_back steps last = record { there = λ w. w; here = λ w. w; first = refl }

pub one_gone_back : (steps left others : List Step) (step : Step) (last now new : Text) → AreGoneBack steps left last now
    → left ≡ others ++ step ∷ [] → Leads step.pieces (before step.pieces now) now → new ≡ before step.pieces now → AreGoneBack steps others last new
one_gone_back steps left others step last now new g split l e = record {
  there = λ w. subst (λ (f : Text). LeadTo others f) (sym e) ((lead_to_pop others step now (subst (λ (ss : List Step). LeadTo ss now) split (g.there w))).0);
  here = λ w. g.here (subst (λ (ss : List Step). LeadTo ss now) (sym split) (lead_to_push others step now (subst (λ (f : Text). LeadTo others f) e w) l));
  first = ap (first_of others) e ∙ sym (first_of-push others step now) ∙ ap (λ (ss : List Step). first_of ss now) (sym split) ∙ g.first;
}

-- a step that does not lead here refuses them all
pub stuck_back : (steps left others : List Step) (step : Step) (last now : Text) → AreGoneBack steps left last now
    → left ≡ others ++ step ∷ [] → (Leads step.pieces (before step.pieces now) now → ⊥) → LeadTo steps last → ⊥
stuck_back steps left others step last now g split stuck w =
    stuck ((lead_to_pop others step now (subst (λ (ss : List Step). LeadTo ss now) split (g.there w))).1)

-- ---- on

-- what the loop forward keeps
pub record AreGoneOn (steps : List Step) (i : ℕ) (first now : Text) : Type 0 where
  pub there : LeadOn steps first → LeadOn (drop i steps) now
  pub here : LeadOn (drop i steps) now → LeadOn steps first
  pub last : last_of (drop i steps) now ≡ last_of steps first
  pub is_file : IsOpenable now

pub none_gone_on : (steps : List Step) (first : Text) → IsOpenable first → AreGoneOn steps 0 first first
none_gone_on steps first f = record { there = λ w. w; here = λ w. w; last = refl; is_file = f }

next_step : (steps : List Step) (i : ℕ) (s : Step) → i < length steps → s ≡ get_or steps i s → drop i steps ≡ s ∷ drop (i + 1) steps
next_step steps i s h e = drop_more steps i s h ∙ ap (λ (x : Step). x ∷ drop (i + 1) steps) (sym e)

pub one_gone_on : (steps : List Step) (i : ℕ) (first now new : Text) (s : Step) → AreGoneOn steps i first now → i < length steps → s ≡ get_or steps i s
    → IsAllowed s.pieces now → new ≡ applied s.pieces now → AreGoneOn steps (i + 1) first new
one_gone_on steps i first now new s g h is a e =
    let next : drop i steps ≡ s ∷ drop (i + 1) steps = next_step steps i s h is in
    let leads : Leads s.pieces now (applied s.pieces now) = record { fit = a.fit; made = refl; old_is_file = g.is_file; new_is_file = a.made } in
    record {
      there = λ w. subst (λ (f : Text). LeadOn (drop (i + 1) steps) f) (sym e) ((subst (λ (ss : List Step). LeadOn ss now) next (g.there w)).1);
      here = λ w. g.here (subst (λ (ss : List Step). LeadOn ss now) (sym next) (leads, subst (λ (f : Text). LeadOn (drop (i + 1) steps) f) e w));
      last = ap (last_of (drop (i + 1) steps)) e ∙ sym (ap (λ (ss : List Step). last_of ss now) next) ∙ g.last;
      is_file = subst IsOpenable (sym e) a.made;
    }

-- a step that is not allowed here refuses them all
pub stuck_on : (steps : List Step) (i : ℕ) (first now : Text) (s : Step) → AreGoneOn steps i first now → i < length steps → s ≡ get_or steps i s
    → (IsAllowed s.pieces now → ⊥) → LeadOn steps first → ⊥
stuck_on steps i first now s g h is stuck w =
    let leads : Leads s.pieces now (applied s.pieces now) = (subst (λ (ss : List Step). LeadOn ss now) (next_step steps i s h is) (g.there w)).0 in
    stuck (record { fit = leads.fit; made = leads.new_is_file })

pub all_gone_on : (steps : List Step) (i : ℕ) (first now : Text) → AreGoneOn steps i first now → length steps ≤ i → LeadOn steps first × (now ≡ last_of steps first)
all_gone_on steps i first now g h =
    let none : drop i steps ≡ [] = drop_all i steps h in
    (g.here (subst (λ (ss : List Step). LeadOn ss now) (sym none) tt), sym (ap (λ (ss : List Step). last_of ss now) none) ∙ g.last)

-- ---- back, over a part of the steps

-- one step more at the end of a part
pub part_pop : (steps : List Step) (from n : ℕ) (s : Step) → from ≤ n → n < length steps → s ≡ get_or steps n s → drop from (take (n + 1) steps) ≡ drop from (take n steps) ++ s ∷ []
part_pop steps from n s after within is =
    ap (drop from) (take_more steps n s within ∙ ap (λ (x : Step). take n steps ++ x ∷ []) (sym is))
    ∙ drop-append-le from (take n steps) (s ∷ []) (omega (arith, after, within, length-take n steps))

-- no step is left
pub part_none : (steps : List Step) (from n : ℕ) → n ≤ from → drop from (take n steps) ≡ []
part_none steps from n h = drop_all from (take n steps) (omega (arith, h, length-take n steps))

-- the part of all steps
pub part_all : (steps : List Step) (n : ℕ) → n ≡ length steps → drop 0 (take n steps) ≡ steps
part_all steps n all = take_all n steps (omega (arith, all))

pub turnable_at : (steps : List Step) (n : ℕ) (d : Step) → AreTurnable steps → n < length steps → IsTurnable (get_or steps n d).pieces
turnable_at [] n d h within = absurd (omega (arith, within))
turnable_at (s ∷ ss) zero d h within = h.0
turnable_at (s ∷ ss) (suc n) d h within = turnable_at ss n d h.1 (omega (arith, within))

-- the last step of a part
pub part_last : (steps : List Step) (from n : ℕ) (s : Step) → from < n → n ≤ length steps → slice_get steps (n - 1) ≡ Some s
    → drop from (take n steps) ≡ drop from (take (n - 1) steps) ++ s ∷ []
part_last steps from n s after within is =
    let next : n ≡ n - 1 + 1 = omega (arith, after) in
    ap (λ (k : ℕ). drop from (take k steps)) next
    ∙ part_pop steps from (n - 1) s (omega (arith, after)) (omega (arith, after, within)) (sym (get_or_from_slice_get steps (n - 1) s s is))

pub turnable_there : (steps : List Step) (n : ℕ) (s : Step) (pieces : List Piece) → AreTurnable steps → n < length steps → slice_get steps n ≡ Some s → pieces ≡ s.pieces → IsTurnable pieces
turnable_there steps n s pieces h within is same =
    subst IsTurnable (sym (same ∙ ap (λ (t : Step). t.pieces) (sym (get_or_from_slice_get steps n s s is)))) (turnable_at steps n s h within)

-- ---- there and back

-- what leads to a file leads on from the first
pub on_from_first : (steps : List Step) (file : Text) → LeadTo steps file → LeadOn steps (first_of steps file) × (last_of steps (first_of steps file) ≡ file)
on_from_first [] file w = (tt, refl)
on_from_first (s ∷ ss) file w =
    let rest : LeadOn ss (first_of ss file) × (last_of ss (first_of ss file) ≡ file) = on_from_first ss file w.1 in
    let made : applied s.pieces (first_of (s ∷ ss) file) ≡ first_of ss file = w.0.made in (
      (
        subst (λ (f : Text). Leads s.pieces (first_of (s ∷ ss) file) f) (sym made) w.0,
        subst (λ (f : Text). LeadOn ss f) (sym made) rest.0,
      ),
      ap (last_of ss) made ∙ rest.1,
    )

-- what leads on from a file leads to the last
pub to_last : (steps : List Step) (file : Text) → LeadOn steps file → LeadTo steps (last_of steps file) × (first_of steps (last_of steps file) ≡ file)
to_last [] file w = (tt, refl)
to_last (s ∷ ss) file w =
    let rest : LeadTo ss (last_of ss (applied s.pieces file)) × (first_of ss (last_of ss (applied s.pieces file)) ≡ applied s.pieces file) = to_last ss (applied s.pieces file) w.1 in
    let back : before s.pieces (applied s.pieces file) ≡ file = before-made s.pieces file (applied s.pieces file) w.0 in
    let start : before s.pieces (first_of ss (last_of ss (applied s.pieces file))) ≡ file = ap (before s.pieces) rest.1 ∙ back in (
      (
        subst (λ (f : Text). Leads s.pieces f (first_of ss (last_of ss (applied s.pieces file)))) (sym start) (subst (λ (f : Text). Leads s.pieces file f) (sym rest.1) w.0),
        rest.0,
      ),
      start,
    )
