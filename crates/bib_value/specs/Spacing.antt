-- Texts that are their own field texts.
use Rattle.std.specs.Prelude.{ℕ, Bool, not, ◌&&◌, ◌||◌, ◌==◌, true, false, [], ◌∷◌, if◌then◌else◌}
use Rattle.bib_spec.specs.Bytes.{space}
use Rattle.bib_spec.specs.Text.{Text, is_space}

-- words with one space between each two, and none at the end; if `apart` is true, a word has to begin here
abbrev pub neat : Bool → Text → Bool
neat apart [] = not apart
neat apart (b ∷ t) = if is_space b then b == space && (not apart && neat true t) else neat false t

-- a neat text can continue with this byte; if `apart` is true, a word has to begin here
abbrev pub can_go_on : Bool → ℕ → Bool
can_go_on apart b = not (is_space b) || (b == space && not apart)
