-- The names that an edit is given are tested one after another.
use Rattle.bib_edit.proofs.Words.{◌≡◌, ◌&&◌, Bool, true, false, refl}

pub and_name : (a : Bool) → a ≡ ((a && true) && true)
and_name true = refl
and_name false = refl

pub and_names : (a b : Bool) → (a && b) ≡ ((a && (b && true)) && true)
and_names true true = refl
and_names true false = refl
and_names false b = refl
