-- How often texts are in a list.
use Rattle.std.specs.Prelude.{ℕ, ◌≡◌, List, map, unwrap_or, bytes_eq, count_by}
use Rattle.std.specs.HashMap.{HashMap, get_by}
use Rattle.bib_spec.specs.Text.{Text}
use denote.Ref.{Bor}
use Rattle.merge_spec.specs.Units.{Label}
use Rattle.bib_places.specs.LabelCodes.{code_of}

-- how often a text was counted, by a map of texts to counts
abbrev pub times : {S : Type 0} → HashMap (Bor Text) ℕ S → Text → ℕ
times counts text = unwrap_or (get_by (λ k. bytes_eq text k.now) counts) 0

-- how many of these texts are the same as this one, byte for byte
abbrev pub count_of : Text → List Text → ℕ
count_of text texts = count_by (bytes_eq text) texts

-- the map has the counts of the codes of these labels
abbrev pub CountsLabels : {S : Type 0} → HashMap (Bor Text) ℕ S → List Label → Type 0
CountsLabels counts labels = (text : Text) → times counts text ≡ count_of text (map code_of labels)
