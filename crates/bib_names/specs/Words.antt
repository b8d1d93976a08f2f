-- The words of a piece of a name.
use Rattle.std.specs.Prelude.{ℕ, zero, suc, ◌+◌, ◌-◌, Bool, ◌&&◌, ◌||◌, not, ◌==◌, List, length, slice_index, map, if◌then◌else◌}
use Rattle.std.specs.List.{range_with_len, slice_range, prefix_len}
use Rattle.bib_spec.specs.Bytes.{space}
use Rattle.bib_spec.specs.Text.{Text, is_space}
use Rattle.bib_names.specs.Marks.{is_separator}
use Rattle.bib_names.specs.Places.{is_level, places, Stretch}

-- a word of a name: the separator before it, its place in the name, and its bytes
pub record NameWord : Type 0 where
  pub sep : ℕ
  pub at : ℕ
  pub text : Text

-- a separator is at the place, at depth 0
abbrev pub is_gap : Text → ℕ → Bool
is_gap text place = is_level text place && is_separator (slice_index text place)

-- a word begins at the place: no gap is there, but before it is one or the front (btxhak 5.4)
abbrev pub begins_word : Text → ℕ → Bool
begins_word text place = not (is_gap text place) && (place == 0 || is_gap text (place - 1))

-- where the word at the place ends: at the first gap, or at the end of the piece
abbrev pub word_end : Text → ℕ → ℕ
word_end text place =
    place + prefix_len (λ p. not (is_gap text p)) (range_with_len place (length text - place))

-- where the run of gaps before the place begins
abbrev pub run_start : Text → ℕ → ℕ
run_start text zero = zero
run_start text (suc place) = if is_gap text place then run_start text place else suc place

-- a separator as a word keeps it: white space as a space
abbrev pub kept_separator : ℕ → ℕ
kept_separator byte = if is_space byte then space else byte

-- the separator of the word at the place: the first byte of the gaps before it; a space for the first word of a piece (BibTeX 0.99)
abbrev pub sep_before : Text → ℕ → ℕ
sep_before text place =
    let start = run_start text place in
    if start == 0 then space else kept_separator (slice_index text start)

-- the word that begins at a place of a piece
abbrev pub word_at : Stretch → ℕ → NameWord
word_at piece place = record {
  sep = sep_before piece.text place;
  at = piece.at + place;
  text = slice_range piece.text place (word_end piece.text place);
}

-- the words of a piece, in order
abbrev pub words_of : Stretch → List NameWord
words_of piece = map (word_at piece) (places (begins_word piece.text) piece.text)
