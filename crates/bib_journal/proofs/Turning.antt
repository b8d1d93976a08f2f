-- What going back asks of a step that leads from file to file.
use Rattle.bib_journal.proofs.Words.{ℕ, ◌≤◌, ◌<◌, ◌^◌, List, [], ◌∷◌, length, ap, arith, sum_by, AllByRecursion, All-from_recursion, file_limit, Text, Piece, Leads}
use Rattle.std.proofs.Common.{All}
use Rattle.bib_spec.specs.Pieces.{Stands, end_of}
use Rattle.history_spec.proofs.StepLemmas.{new_bytes_in}

-- a piece that stands in a short text has a small place
small_places : (n : ℕ) (ps : List Piece) (text : Text) → length text ≤ n → AllByRecursion (Stands text) ps → AllByRecursion (λ p. p.place ≤ n) ps
small_places n [] text h s = tt
small_places n (p ∷ ps) text h s =
    let inside : end_of p ≤ length text = s.0.inside in
    (omega arith, small_places n ps text h s.1)

pub record CanTurn (step : List Piece) : Type 0 where
  pub places : All (λ p. p.place ≤ file_limit) step
  pub new_bytes : sum_by (λ p. length p.new) step < 2 ^ 32

pub can_turn : (step : List Piece) (old new : Text) → Leads step old new → CanTurn step
can_turn step old new l = record {
  places = All-from_recursion (λ (p : Piece). p.place ≤ file_limit) step (small_places file_limit step old l.old_is_file.1.short l.fit.standing);
  new_bytes = omega (arith, new_bytes_in 0 step old, l.new_is_file.1.short, ap length l.made);
}
