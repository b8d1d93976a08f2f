-- The names of a list.
use Rattle.std.specs.Prelude.{ℕ, ◌+◌, ◌-◌, Bool, ◌&&◌, nat_lt, List, [], take, drop, map, codes, slice_index, if◌then◌else◌}
use Rattle.std.specs.List.{list_all}
use Rattle.bib_spec.specs.Text.{Text, is_space, same}
use Rattle.bib_names.specs.Places.{is_level, places, between}
use Rattle.bib_text.specs.Trimming.{trimmed}

-- the word `and`, folded, is at the place, with white space on both sides (btxhak 5.3)
abbrev pub is_and : Text → ℕ → Bool
is_and text place =
    nat_lt 0 place && is_space (slice_index text (place - 1))
    && same (take 3 (drop place text)) (codes "and")
    && is_space (slice_index text (place + 3))

-- a list is cut at this place: a word `and` is there, at depth 0; two such words may share white space (btxhak 5.3)
abbrev pub is_cut : Text → ℕ → Bool
is_cut text place = is_level text place && is_and text place

-- the places of the words `and` at which a list is cut
abbrev pub cuts : Text → List ℕ
cuts text = places (is_cut text) text

-- The names of a list: the texts between its words `and`, without white space at their ends. A name may be empty; a list of white
-- space alone has no names. (btxhak 5.3; dialect)
abbrev pub names_of : Text → List Text
names_of text =
    if list_all is_space text then []
    else map (λ s. trimmed s.text) (between 3 text 0 (cuts text))
