-- Steps that a journal may hold can be turned.
use Rattle.bib_journal.proofs.Words.{◌≡◌, ◌+◌, ◌≤◌, List, [], ◌∷◌, ◌++◌, length, decimal, sum_by, arith, length-append, AllByRecursion, flat_map, All-from_recursion, file_limit, line_feed, Piece, Step, piece_text, pieces_text, step_text_len, AreTurnable}
use Rattle.std.proofs.lemmas.List.Sums.{sum_by-cons}
use Rattle.history_spec.specs.Steps.{IsStep, AreSteps, HasSmallNumbers, step_text, step_texts_limit}

new_in_text : (p : Piece) → length p.new ≤ length (piece_text p)
new_in_text p = simp length-append (omega arith)

new_in_texts : (ps : List Piece) → sum_by (λ p. length p.new) ps ≤ length (flat_map piece_text ps)
new_in_texts [] = omega arith
new_in_texts (p ∷ ps) =
    omega (arith, sum_by-cons (λ (q : Piece). length q.new) p ps, length-append (piece_text p) (flat_map piece_text ps), new_in_text p, new_in_texts ps)

new_in_step : (step : Step) → sum_by (λ p. length p.new) step.pieces ≤ step_text_len step
unfolding step_text_len step_text pieces_text
new_in_step step =
    omega (
      arith,
      new_in_texts step.pieces,
      length-append step.label (line_feed ∷ (decimal (length step.pieces) ++ line_feed ∷ flat_map piece_text step.pieces)),
      length-append (decimal (length step.pieces)) (line_feed ∷ flat_map piece_text step.pieces),
    )

small_places : (ps : List Piece) → AllByRecursion HasSmallNumbers ps → AllByRecursion (λ p. p.place ≤ file_limit) ps
small_places [] h = tt
small_places (p ∷ ps) h = (h.0.place, small_places ps h.1)

turnable : (steps : List Step) → AllByRecursion IsStep steps → sum_by step_text_len steps ≤ step_texts_limit → AreTurnable steps
turnable [] h short = tt
turnable (s ∷ ss) h short =
    let total : sum_by step_text_len (s ∷ ss) ≡ step_text_len s + sum_by step_text_len ss = sum_by-cons step_text_len s ss in (
      record {
        ascending = h.0.pieces.ascending;
        places = All-from_recursion (λ (p : Piece). p.place ≤ file_limit) s.pieces (small_places s.pieces h.0.pieces.small);
        new_bytes = omega (arith, new_in_step s);
      },
      turnable ss h.1 (omega arith),
    )

pub turnable_past : (past future : List Step) → AreSteps past future → AreTurnable past
turnable_past past future h = turnable past h.past_steps (omega (arith, h.short))

pub turnable_future : (past future : List Step) → AreSteps past future → AreTurnable future
turnable_future past future h = turnable future h.future_steps (omega (arith, h.short))
