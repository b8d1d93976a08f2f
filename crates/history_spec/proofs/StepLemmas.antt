-- The files that steps reach, and how steps move from the past to the future and back.
use Rattle.history_spec.proofs.Words.{◌≡◌, ℕ, ◌+◌, ◌≤◌, ◌<◌, List, [], ◌∷◌, ◌++◌, length, inl, inr, refl, sym, ◌∙◌, ap, subst, arith, length-append, AllByRecursion, flat_map, between, length_push, Text, Piece, end_of, Stands, Fit, applied, applied_from, reversed, composed, fit_back}
use Rattle.history_spec.proofs.Words.{applied-reversed}
use Rattle.std.proofs.Common.{◌*◌, sum_by, decimal}
use Rattle.std.proofs.lemmas.Fmt.{decimal_nonempty}
use Rattle.std.proofs.lemmas.List.Sums.{sum_by-cons, sum_by_push}
use Rattle.bib_spec.specs.Bytes.{line_feed, space}
use Rattle.history_spec.specs.Steps.{Step, KeptSteps, with_edit, before, first_of, files_before, files_after, piece_text, pieces_text, step_text, step_text_len, change_limit, step_texts_limit, number_limit, IsLabel, HasSmallNumbers, IsStep, AreSteps, IsSound, IsAllowed, Leads, LeadTo, LeadOn, adding_edits, joining_amends, going_back_undoes, going_on_redoes, steps_lead_back}
use Rattle.bib_spec.specs.Texts.{IsOpenable}
use Rattle.history_spec.proofs.Glued.{composed-fit, composed-lead}

-- ---- the files that steps reach

pub first_of-push : (steps : List Step) (step : Step) (file : Text) → first_of (steps ++ step ∷ []) file ≡ first_of steps (before step.pieces file)
first_of-push [] step file = refl
first_of-push (s ∷ ss) step file = ap (before s.pieces) (first_of-push ss step file)

files_before-push : (steps : List Step) (step : Step) (file : Text)
    → files_before (steps ++ step ∷ []) file ≡ files_before steps (before step.pieces file) ++ before step.pieces file ∷ []
files_before-push [] step file = refl
files_before-push (s ∷ ss) step file =
    ap (λ f. before s.pieces f ∷ files_before (ss ++ step ∷ []) file) (first_of-push ss step file)
    ∙ ap (λ fs. first_of (s ∷ ss) (before step.pieces file) ∷ fs) (files_before-push ss step file)

pub lead_to_push : (steps : List Step) (step : Step) (file : Text)
    → LeadTo steps (before step.pieces file) → Leads step.pieces (before step.pieces file) file → LeadTo (steps ++ step ∷ []) file
lead_to_push [] step file w l = (l, tt)
lead_to_push (s ∷ ss) step file w l = (
  subst (λ (f : Text). Leads s.pieces (before s.pieces f) f) (sym (first_of-push ss step file)) w.0,
  lead_to_push ss step file w.1 l,
)

pub lead_to_pop : (steps : List Step) (step : Step) (file : Text)
    → LeadTo (steps ++ step ∷ []) file → LeadTo steps (before step.pieces file) × Leads step.pieces (before step.pieces file) file
lead_to_pop [] step file w = (tt, w.0)
lead_to_pop (s ∷ ss) step file w =
    let rest : LeadTo ss (before step.pieces file) × Leads step.pieces (before step.pieces file) file = lead_to_pop ss step file w.1 in
    ((subst (λ (f : Text). Leads s.pieces (before s.pieces f) f) (first_of-push ss step file) w.0, rest.0), rest.1)

-- the file before pieces is the file from which they lead
pub before-made : (pieces : List Piece) (old new : Text) → Leads pieces old new → before pieces new ≡ old
before-made pieces old new l = ap (before pieces) (sym l.made) ∙ applied-reversed pieces old l.fit

pub steps-lead-back : steps_lead_back
steps-lead-back pieces old new l = (
  record {
    fit = subst (λ (f : Text). Fit (reversed pieces) f) l.made (fit_back pieces old l.fit);
    made = subst IsOpenable (sym (before-made pieces old new l)) l.old_is_file;
  },
  before-made pieces old new l,
)

pub leads_from : (pieces : List Piece) (old : Text) → IsOpenable old → IsAllowed pieces old → Leads pieces old (applied pieces old)
leads_from pieces old f a = record { fit = a.fit; made = refl; old_is_file = f; new_is_file = a.made }

-- if pieces lead to the file from which others lead on, the composed pieces lead on at once
leads_composed : (first second : List Piece) (old middle : Text) → Leads first old middle → IsAllowed second middle
    → Leads (composed first second) old (applied second middle)
leads_composed first second old middle l a =
    let fits : Fit second (applied first old) = subst (λ (f : Text). Fit second f) (sym l.made) a.fit in
    record {
      fit = composed-fit first second old l.fit fits;
      made = composed-lead first second old l.fit fits ∙ ap (applied second) l.made;
      old_is_file = l.old_is_file;
      new_is_file = a.made;
    }

-- a step that leads on can be put after the steps that lead to the file where it begins
lead_to_made : (steps : List Step) (step : Step) (old new : Text) → LeadTo steps old → Leads step.pieces old new → LeadTo (steps ++ step ∷ []) new
lead_to_made steps step old new w l =
    let back : before step.pieces new ≡ old = before-made step.pieces old new l in
    lead_to_push steps step new (subst (λ (f : Text). LeadTo steps f) (sym back) w) (subst (λ (f : Text). Leads step.pieces f new) (sym back) l)

files_before-made : (steps : List Step) (step : Step) (old new : Text) → Leads step.pieces old new
    → files_before (steps ++ step ∷ []) new ≡ files_before steps old ++ old ∷ []
files_before-made steps step old new l =
    files_before-push steps step new ∙ ap (λ (f : Text). files_before steps f ++ f ∷ []) (before-made step.pieces old new l)

-- ---- what can be written

pub all_push : {X : Type 0} (P : X → Type 0) (xs : List X) (x : X) → AllByRecursion P xs → P x → AllByRecursion P (xs ++ x ∷ [])
all_push P [] x a p = (p, tt)
all_push P (y ∷ xs) x a p = (a.0, all_push P xs x a.1 p)

pub all_pop : {X : Type 0} (P : X → Type 0) (xs : List X) (x : X) → AllByRecursion P (xs ++ x ∷ []) → AllByRecursion P xs × P x
all_pop P [] x a = (tt, a.0)
all_pop P (y ∷ xs) x a = let rest = all_pop P xs x a.1 in ((a.0, rest.0), rest.1)

steps_back : (past future : List Step) (step : Step) → AreSteps (past ++ step ∷ []) future → AreSteps past (step ∷ future)
steps_back past future step s =
    let popped : AllByRecursion IsStep past × IsStep step = all_pop IsStep past step s.past_steps in
    record {
      past_steps = popped.0;
      future_steps = (popped.1, s.future_steps);
      few = omega (arith, s.few, length_push past step);
      short = omega (arith, s.short, sum_by_push step_text_len past step, sum_by-cons step_text_len step future);
    }

steps_on : (past future : List Step) (step : Step) → AreSteps past (step ∷ future) → AreSteps (past ++ step ∷ []) future
steps_on past future step s = record {
  past_steps = all_push IsStep past step s.past_steps s.future_steps.0;
  future_steps = s.future_steps.1;
  few = omega (arith, s.few, length_push past step);
  short = omega (arith, s.short, sum_by_push step_text_len past step, sum_by-cons step_text_len step future);
}

-- the new bytes are in the new text
pub new_bytes_in : (at : ℕ) (ps : List Piece) (text : Text) → sum_by (λ p. length p.new) ps ≤ length (applied_from at ps text)
new_bytes_in at [] text = omega arith
new_bytes_in at (p ∷ ps) text =
    let g : Text = between at p.place text in
    let rest : Text = applied_from (end_of p) ps text in
    omega (arith, sum_by-cons (λ (q : Piece). length q.new) p ps, new_bytes_in (end_of p) ps text, length-append (g ++ p.new) rest, length-append g p.new)

-- pieces that fit a short text and whose new bytes are few have small numbers
small_pieces : (ps : List Piece) (text : Text) → length text ≤ number_limit → sum_by (λ p. length p.new) ps ≤ number_limit → AllByRecursion (Stands text) ps
    → AllByRecursion HasSmallNumbers ps
small_pieces [] text h k s = tt
small_pieces (p ∷ ps) text h k s =
    let inside : end_of p ≤ length text = s.0.inside in
    let total : sum_by (λ (q : Piece). length q.new) (p ∷ ps) ≡ length p.new + sum_by (λ (q : Piece). length q.new) ps = sum_by-cons (λ (q : Piece). length q.new) p ps in (
      record { place = omega arith; old = omega arith; new = omega arith },
      small_pieces ps text h (omega arith) s.1,
    )

-- a piece takes at least seven bytes of the text
length-piece_text : (p : Piece) → HasSmallNumbers p → 7 ≤ length (piece_text p)
length-piece_text p s =
    let a : 0 < length (decimal p.place) = decimal_nonempty p.place (omega (arith, s.place)) in
    let b : 0 < length (decimal (length p.old)) = decimal_nonempty (length p.old) (omega (arith, s.old)) in
    let c : 0 < length (decimal (length p.new)) = decimal_nonempty (length p.new) (omega (arith, s.new)) in
    let bytes : Text = p.old ++ (p.new ++ line_feed ∷ []) in
    let last : Text = decimal (length p.new) ++ (line_feed ∷ bytes) in
    let others : Text = decimal (length p.old) ++ (space ∷ last) in
    omega (
      arith,
      a,
      b,
      c,
      length-append (decimal p.place) (space ∷ others),
      length-append (decimal (length p.old)) (space ∷ last),
      length-append (decimal (length p.new)) (line_feed ∷ bytes),
      length-append p.old (p.new ++ line_feed ∷ []),
      length-append p.new (line_feed ∷ []),
    )

length-pieces_text : (ps : List Piece) → AllByRecursion HasSmallNumbers ps → 7 * length ps ≤ length (flat_map piece_text ps)
length-pieces_text [] s = omega arith
length-pieces_text (p ∷ ps) s = omega (arith, length-pieces_text ps s.1, length-piece_text p s.0, length-append (piece_text p) (flat_map piece_text ps))

length-step_text : (step : Step) → AllByRecursion HasSmallNumbers step.pieces → 7 * length step.pieces ≤ step_text_len step
unfolding step_text_len step_text pieces_text
length-step_text step s =
    let lines : Text = decimal (length step.pieces) ++ line_feed ∷ flat_map piece_text step.pieces in
    omega (
      arith,
      length-pieces_text step.pieces s,
      length-append step.label (line_feed ∷ lines),
      length-append (decimal (length step.pieces)) (line_feed ∷ flat_map piece_text step.pieces),
    )

-- a step that leads from file to file, and whose text is not too long, can be written
is_step : (step : Step) (old new : Text) → IsLabel step.label → Leads step.pieces old new → step_text_len step ≤ step_texts_limit → IsStep step
is_step step old new label l h =
    let added : sum_by (λ (p : Piece). length p.new) step.pieces ≤ number_limit = omega (arith, new_bytes_in 0 step.pieces old, l.new_is_file.1.short, ap length l.made) in
    let small : AllByRecursion HasSmallNumbers step.pieces = small_pieces step.pieces old l.old_is_file.1.short added l.fit.standing in
    record { label = label; pieces = record { ascending = l.fit.ascending; few = omega (arith, length-step_text step small, h); small = small } }

-- ---- moves

-- steps that lead to a file, with one more step from there that can be written, and nothing to redo
added_is_sound : (steps : List Step) (step : Step) (old : Text) (new : KeptSteps) → LeadTo steps old → Leads step.pieces old new.present → IsLabel step.label
    → AllByRecursion IsStep steps → length steps < change_limit → sum_by step_text_len steps + step_text_len step ≤ step_texts_limit
    → new.past ≡ steps ++ step ∷ [] → new.future ≡ [] → IsSound new
added_is_sound steps step old new w here label good few short pushed emptied =
    let all : AreSteps (steps ++ step ∷ []) [] = record {
      past_steps = all_push IsStep steps step good (is_step step old new.present label here (omega arith));
      future_steps = tt;
      few = omega (arith, length_push steps step);
      short = omega (arith, sum_by_push step_text_len steps step);
    } in
    record {
      present = here.new_is_file;
      belong = record {
        back = subst (λ (ss : List Step). LeadTo ss new.present) (sym pushed) (lead_to_made steps step old new.present w here);
        on = subst (λ (ss : List Step). LeadOn ss new.present) (sym emptied) tt;
      };
      steps = subst (λ (ss : List Step). AreSteps ss new.future) (sym pushed) (subst (λ (ss : List Step). AreSteps (steps ++ step ∷ []) ss) (sym emptied) all);
    }

pub adding-edits : adding_edits
adding-edits step old new w label allowed room m =
    let here : Leads step.pieces old.present new.present = subst (λ (f : Text). Leads step.pieces old.present f) (sym m.present) (leads_from step.pieces old.present w.present allowed) in
    let few : length old.past < change_limit = omega (arith, λ (h : change_limit ≤ length old.past). room (inl h)) in
    let short : sum_by step_text_len old.past + step_text_len step ≤ step_texts_limit =
    omega (arith, λ (h : step_texts_limit < sum_by step_text_len old.past + step_text_len step). room (inr h)) in (
      added_is_sound old.past step old.present new w.belong.back here label w.steps.past_steps few short m.past m.future,
      record {
        past = ap (λ ss. files_before ss new.present) m.past ∙ files_before-made old.past step old.present new.present here;
        present = m.present;
        future = ap (λ ss. files_after ss new.present) m.future;
      },
    )

pub joining-amends : joining_amends
joining-amends front step pieces old new w none allowed room m =
    let popped : LeadTo front (before step.pieces old.present) × Leads step.pieces (before step.pieces old.present) old.present =
    lead_to_pop front step old.present (subst (λ (ss : List Step). LeadTo ss old.present) m.last w.belong.back) in
    let start : Text = before step.pieces old.present in
    let joined : Step = with_edit step pieces in
    let here : Leads joined.pieces start new.present = subst (λ (f : Text). Leads joined.pieces start f) (sym m.present) (leads_composed step.pieces pieces start old.present popped.1 allowed) in
    let steps : AllByRecursion IsStep front × IsStep step = all_pop IsStep front step (subst (λ (ss : List Step). AllByRecursion IsStep ss) m.last w.steps.past_steps) in
    let few : length front < change_limit = omega (arith, w.steps.few, ap length m.last, length_push front step) in
    let short : sum_by step_text_len front + step_text_len joined ≤ step_texts_limit =
    omega (arith, λ (h : step_texts_limit < sum_by step_text_len front + step_text_len joined). room h) in (
      added_is_sound front joined start new popped.0 here steps.1.label steps.0 few short m.past (m.future ∙ none),
      record {
        past = ap (λ ss. files_before ss new.present) m.past ∙ files_before-made front joined start new.present here
            ∙ sym (ap (λ ss. files_before ss old.present) m.last ∙ files_before-made front step start old.present popped.1);
        present = m.present;
        future = ap (λ ss. files_after ss new.present) (m.future ∙ none) ∙ sym (ap (λ ss. files_after ss old.present) none);
      },
    )

pub going-back-undoes : going_back_undoes
going-back-undoes step old new w m =
    let popped : LeadTo new.past (before step.pieces old.present) × Leads step.pieces (before step.pieces old.present) old.present =
    lead_to_pop new.past step old.present (subst (λ (ss : List Step). LeadTo ss old.present) m.past w.belong.back) in
    let here : Leads step.pieces new.present old.present = subst (λ (f : Text). Leads step.pieces f old.present) (sym m.present) popped.1 in
    let made : applied step.pieces new.present ≡ old.present = here.made in (
      record {
        present = here.old_is_file;
        belong = record {
          back = subst (λ (f : Text). LeadTo new.past f) (sym m.present) popped.0;
          on = subst (λ (ss : List Step). LeadOn ss new.present) (sym m.future) (
            subst (λ (f : Text). Leads step.pieces new.present f) (sym made) here,
            subst (λ (f : Text). LeadOn old.future f) (sym made) w.belong.on,
          );
        };
        steps = subst (λ (ss : List Step). AreSteps new.past ss) (sym m.future) (steps_back new.past old.future step (subst (λ (ss : List Step). AreSteps ss old.future) m.past w.steps));
      },
      record {
        past = ap (λ ss. files_before ss old.present) m.past ∙ files_before-made new.past step new.present old.present here;
        future = ap (λ ss. files_after ss new.present) m.future ∙ ap (λ (f : Text). f ∷ files_after old.future f) made;
      },
    )

pub going-on-redoes : going_on_redoes
going-on-redoes step old new w m =
    let led : LeadOn (step ∷ new.future) old.present = subst (λ (ss : List Step). LeadOn ss old.present) m.future w.belong.on in
    let here : Leads step.pieces old.present new.present = subst (λ (f : Text). Leads step.pieces old.present f) (sym m.present) led.0 in (
      record {
        present = here.new_is_file;
        belong = record {
          back = subst (λ (ss : List Step). LeadTo ss new.present) (sym m.past) (lead_to_made old.past step old.present new.present w.belong.back here);
          on = subst (λ (f : Text). LeadOn new.future f) (sym m.present) led.1;
        };
        steps = subst (λ (ss : List Step). AreSteps ss new.future) (sym m.past) (steps_on old.past new.future step (subst (λ (ss : List Step). AreSteps old.past ss) m.future w.steps));
      },
      record {
        past = ap (λ ss. files_before ss new.present) m.past ∙ files_before-made old.past step old.present new.present here;
        future = ap (λ ss. files_after ss old.present) m.future ∙ ap (λ (f : Text). f ∷ files_after new.future f) (sym m.present);
      },
    )
