-- The parts of a name.
use Rattle.std.specs.Prelude.{ℕ, ◌-◌, Bool, ◌&&◌, not, ◌==◌, List, [], ◌∷◌, length, take, drop, slice_index, Option, None, Some, if◌then◌else◌}
use Rattle.std.specs.List.{prefix_len}
use Rattle.bib_spec.specs.Bytes.{comma}
use Rattle.bib_spec.specs.Text.{Text}
use Rattle.bib_names.specs.Marks.{hyphen, is_dropped_at_end}
use Rattle.bib_names.specs.Places.{is_level, places, Stretch, between}
use Rattle.bib_text.specs.Trimming.{up_to_last, before_run}
use Rattle.bib_names.specs.Words.{NameWord, words_of}
use Rattle.bib_names.specs.Case.{is_lower}
use Rattle.bib_names.specs.declared.name.Name.{Name}

-- the word is a von word: its case is lower (btxhak 5.4)
abbrev pub is_von : NameWord → Bool
is_von word = is_lower word.text

-- how many words there are up to the last von word, if the final word is left out
abbrev pub von_end : List NameWord → ℕ
von_end words = up_to_last is_von (take (length words - 1) words)

-- how many words are before the first von word
abbrev pub von_start : List NameWord → ℕ
von_start words = prefix_len (λ word. not (is_von word)) words

-- no hyphen joins the word to the one before it
abbrev pub is_free : NameWord → Bool
is_free word = not (word.sep == hyphen)

-- how many words are before the last word that no hyphen joins to the one before it
abbrev pub hyphened_start : List NameWord → ℕ
hyphened_start words = up_to_last is_free words - 1

-- the parts if von is the words from s on up to e, First the words before them and Last the words after them
abbrev pub cut_at : ℕ → ℕ → List NameWord → Name
cut_at s e words = record { first = take s words; von = drop s (take e words); last = drop e words; jr = [] }

-- `First von Last`: von is all words from the first von word to the last, if the final word is left out (btxhak 5.4). Without a
-- von word, Last is the final word and the words that hyphens join to it (BibTeX 0.99).
abbrev pub without_comma : List NameWord → Name
without_comma words =
    if von_end words == 0 then cut_at (hyphened_start words) (hyphened_start words) words
    else cut_at (von_start words) (von_end words) words

-- `von Last, Jr, First`, from the words of these pieces: von is all words of the first piece up to its last von word, if the final
-- word is left out (btxhak 5.4)
abbrev pub with_commas : List NameWord → List NameWord → List NameWord → Name
with_commas words jr first =
    record { first = first; von = take (von_end words) words; last = drop (von_end words) words; jr = jr }

-- a name is cut at this place: a comma is there, at depth 0 (btxhak 5.4)
abbrev pub is_comma : Text → ℕ → Bool
is_comma text place = is_level text place && slice_index text place == comma

-- the places of the commas at which a name is cut
abbrev pub commas : Text → List ℕ
commas text = places (is_comma text) text

-- the parts of a name of one, two or three pieces; with more there are none
abbrev pub parts_of_pieces : List Stretch → Option Name
parts_of_pieces (p ∷ []) = Some (without_comma (words_of p))
parts_of_pieces (p ∷ q ∷ []) = Some (with_commas (words_of p) [] (words_of q))
parts_of_pieces (p ∷ q ∷ r ∷ []) = Some (with_commas (words_of p) (words_of q) (words_of r))
parts_of_pieces _ = None

-- the parts of a name that ends neither with a separator nor with a comma
abbrev pub parts_of_bare : Text → Option Name
parts_of_bare bare = parts_of_pieces (between 1 bare 0 (commas bare))

-- A name's text without separators and commas at its end. (Separators at its front are in no word, and no place
-- depends on them.)
abbrev pub without_end : Text → Text
without_end text = before_run is_dropped_at_end text

-- the parts of a name
abbrev pub parts_of : Text → Option Name
parts_of text = parts_of_bare (without_end text)
