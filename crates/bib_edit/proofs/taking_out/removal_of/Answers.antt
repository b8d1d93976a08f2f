use Rattle.bib_edit.proofs.Words.{◌≡◌, ◌∙◌, ℕ, Text, Piece}
use Rattle.bib_edit.proofs.taking_out.removal_of.Goals as goal

piece_from : (p q : ℕ) (o o' n n' : Text) → p ≡ q → o ≡ o' → n ≡ n' → ◌≡◌ {A = Piece} (record { place = p; old = o; new = n }) (record { place = q; old = o'; new = n' })
piece_from p q o o' n n' a b c = cc

pub returns-clause-removal : goal.returns-clause-removal
returns-clause-removal g c db reads =
    piece_from _ _ _ _ _ _ (c.item_place.ensures db reads)
    (c.in_ok-copied.ensures ∙ c.body_of.ensures db reads)
    c.empty.ensures
