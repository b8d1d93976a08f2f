-- The test whether a piece stands in a text.
use Rattle.std.proofs.Common.{◌≡◌, ◌-◌, ◌≤◌, Bool, eqb, IsTrue, length, take, drop, ◌∙◌, ap}
use Rattle.std.proofs.lemmas.Bool.Decides.{Decides-eqb}
use Rattle.std.proofs.lemmas.List.{take_rest}
use Rattle.std.proofs.lemmas.Slice.Eq.{starts_is}
use Rattle.std.specs.Cmp.Lexicographic.{pointwise}
use Rattle.bib_spec.specs.Text.{Text}
use Rattle.bib_spec.specs.Pieces.{Piece, end_of, Stands}
use Rattle.bib_spec.proofs.PieceLemmas.{drop-place, stands_before}

pub stands_tested : (text old : Text) (p : Piece) (r : Bool) → old ≡ p.old → p.place ≤ length text
    → r ≡ pointwise eqb old (take (length old) (take (length text - p.place) (drop p.place text)))
    → (IsTrue r → Stands text p) × (Stands text p → IsTrue r)
stands_tested text old p r same h e =
    let value : r ≡ pointwise eqb p.old (take (length p.old) (drop p.place text)) =
    e ∙ ap (λ s. pointwise eqb old (take (length old) s)) (take_rest text p.place) ∙ ap (λ o. pointwise eqb o (take (length o) (drop p.place text))) same in
    let test = starts_is Decides-eqb (drop p.place text) p.old r value in
    (λ t. stands_before text _ p h (test.0 t), λ s. test.1 (drop (end_of p) text) (drop-place text p s))
