-- The words of a piece of a name.
use Rattle.std.specs.Prelude.{ℕ, zero, suc, ◌+◌, ◌-◌, Bool, ◌&&◌, ◌||◌, not, ◌==◌, List, length, slice_index, map, if◌then◌else◌}
use Rattle.std.specs.List.{range_with_len, slice_range, prefix_len}
use Rattle.bib_spec.specs.Bytes.{space, comma}
use Rattle.bib_spec.specs.Text.{Text}
use Rattle.bib_names.specs.Marks.{hyphen, tie, is_separator}
use Rattle.bib_names.specs.Places.{is_level, places}

-- a word of a name: the separator before it, and its bytes
pub record NameWord : Type 0 where
  pub sep : ℕ
  pub text : Text

-- A gap is at the place, outside of braces: a separator; or a comma, which parts words too, behind the second comma of a name.
-- (bibtex.web 389, 391, 393)
abbrev pub is_gap : Text → ℕ → Bool
is_gap text place = is_level text place && (is_separator (slice_index text place) || slice_index text place == comma)

-- a word begins at the place: no gap is there, but before it is one or the front (bibtex.web 394)
abbrev pub begins_word : Text → ℕ → Bool
begins_word text place = not (is_gap text place) && (place == 0 || is_gap text (place - 1))

-- where the word at the place ends: at the first gap, or at the end of the piece
abbrev pub word_end : Text → ℕ → ℕ
word_end text place =
    place + prefix_len (λ p. not (is_gap text p)) (range_with_len place (length text - place))

-- where the run of gaps before the place begins
abbrev pub run_start : Text → ℕ → ℕ
run_start text zero = zero
run_start text (suc place) = if is_gap text place then run_start text place else suc place

-- a separator as a word keeps it: a hyphen or a tie, and a space for white space. For a comma, which BibTeX does not keep, it is a
-- space too. (bibtex.web 392, 393; dialect)
abbrev pub kept_separator : ℕ → ℕ
kept_separator byte = if byte == hyphen || byte == tie then byte else space

-- the separator of the word at the place: the first byte of the gaps before it; a space for the first word of a piece, which is
-- never printed (bibtex.web 392, 393)
abbrev pub sep_before : Text → ℕ → ℕ
sep_before text place =
    let start = run_start text place in
    if start == 0 then space else kept_separator (slice_index text start)

-- the word that begins at a place of a piece
abbrev pub word_at : Text → ℕ → NameWord
word_at piece place = record {
  sep = sep_before piece place;
  text = slice_range piece place (word_end piece place);
}

-- the words of a piece, in order
abbrev pub words_of : Text → List NameWord
words_of piece = map (word_at piece) (places (begins_word piece) piece)
