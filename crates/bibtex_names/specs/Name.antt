-- The parts of a name.
use Rattle.std.specs.Prelude.{ℕ, ◌+◌, ◌-◌, Bool, not, ◌==◌, List, [], ◌∷◌, length, take, drop, Option, None, Some, if◌then◌else◌}
use Rattle.std.specs.List.{prefix_len, slice_range}
use Rattle.bib_spec.specs.Text.{Text}
use Rattle.bib_text.specs.Trimming.{up_to_last}
use Rattle.bib_names.specs.Marks.{hyphen}
use Rattle.bib_names.specs.Name.{commas, without_end}
use Rattle.bibtex_names.specs.Case.{is_lower}
use Rattle.bibtex_names.specs.Words.{NameWord, words_of}
use Rattle.bibtex_names.specs.declared.name.Name.{Name}

-- the word is a von word: its case is lower
abbrev pub is_von : NameWord → Bool
is_von word = is_lower word.text

-- how many words there are up to the last von word, if the final word is left out
abbrev pub von_end : List NameWord → ℕ
von_end words = up_to_last is_von (take (length words - 1) words)

-- how many words are before the first von word
abbrev pub von_start : List NameWord → ℕ
von_start words = prefix_len (λ word. not (is_von word)) words

-- no hyphen joins the word to the one before it
abbrev pub is_free : NameWord → Bool
is_free word = not (word.sep == hyphen)

-- how many words are before the last word that no hyphen joins to the one before it
abbrev pub hyphened_start : List NameWord → ℕ
hyphened_start words = up_to_last is_free words - 1

-- the parts if von is the words from s on up to e, First the words before them and Last the words after them
abbrev pub cut_at : ℕ → ℕ → List NameWord → Name
cut_at s e words = record { first = take s words; von = drop s (take e words); last = drop e words; jr = [] }

-- `First von Last`: von is all words from the first von word to the last, if the final word is left out. Without a von word, Last
-- is the final word and the words that hyphens join to it. (bibtex.web 396)
abbrev pub without_comma : List NameWord → Name
without_comma words =
    if von_end words == 0 then cut_at (hyphened_start words) (hyphened_start words) words
    else cut_at (von_start words) (von_end words) words

-- `von Last, Jr, First`: von is all words of the first piece up to its last von word, if the final word is left out (bibtex.web 395,
-- 401). If there is no word before the first comma, BibTeX reads words that it did not write, and there are no parts (dialect).
abbrev pub with_commas : List NameWord → List NameWord → List NameWord → Option Name
with_commas words jr first =
    if length words == 0 then None
    else Some (record { first = first; von = take (von_end words) words; last = drop (von_end words) words; jr = jr })

-- The parts of a name that has commas at these places. First goes on from the second comma to the end: later commas part words, and
-- nothing else. (bibtex.web 389, 395)
abbrev pub parts_by : Text → List ℕ → Option Name
parts_by bare [] = Some (without_comma (words_of bare))
parts_by bare (one ∷ []) = with_commas (words_of (take one bare)) [] (words_of (drop (one + 1) bare))
parts_by bare (one ∷ two ∷ more) =
    with_commas (words_of (take one bare)) (words_of (slice_range bare (one + 1) two)) (words_of (drop (two + 1) bare))

-- the parts of a name, whose separators and commas at its end do not count (bibtex.web 388)
abbrev pub parts_of : Text → Option Name
parts_of name = parts_by (without_end name) (commas (without_end name))
