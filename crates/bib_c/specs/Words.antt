-- Words that cross as one text and the length of each. (dialect)
use Rattle.std.specs.Prelude.{ℕ, nat_le, List, [], ◌∷◌, length, take, drop, Option, Some, None, option_map, if◌then◌else◌}
use Rattle.bib_spec.specs.Text.{Text}

-- the words of a text, one after another, each of the length that is named for it; none if the text is too short for them
abbrev pub words_of : Text → List ℕ → Option (List Text)
words_of text [] = Some []
words_of text (len ∷ lens) = if nat_le len (length text) then option_map (λ words. take len text ∷ words) (words_of (drop len text) lens) else None
