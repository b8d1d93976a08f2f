-- Texts without some bytes at their ends.
use Rattle.std.specs.Prelude.{ℕ, suc, Bool, not, List, [], ◌∷◌, take, if◌then◌else◌}
use Rattle.std.specs.List.{list_any}
use Rattle.bib_spec.specs.Text.{Text, is_space, after_run}

-- the number of elements up to the last one that passes the test; 0 if none does
abbrev pub up_to_last : {A : Type 0} → (A → Bool) → List A → ℕ
up_to_last test [] = 0
up_to_last test (x ∷ xs) = if list_any test (x ∷ xs) then suc (up_to_last test xs) else 0

-- the text without the run of bytes of this class at its end
abbrev pub before_run : (ℕ → Bool) → Text → Text
before_run test text = take (up_to_last (λ byte. not (test byte)) text) text

-- the text without white space at its ends
abbrev pub trimmed : Text → Text
trimmed text = before_run is_space (after_run is_space text)
