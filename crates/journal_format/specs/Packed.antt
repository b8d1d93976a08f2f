-- Steps that stay in the text of a journal, with the place where each begins; and what their text says. (dialect)
use Rattle.std.specs.Prelude.{ℕ, zero, suc, ◌≡◌, ◌+◌, ◌==◌, if◌then◌else◌, List, [], ◌∷◌, ◌++◌, length, take, drop}
use Rattle.std.specs.List.{AllByRecursion, flat_map}
use Rattle.std.specs.Str.Parse.{digits_value}
use Rattle.bib_spec.specs.Bytes.{line_feed, space}
use Rattle.bib_spec.specs.Text.{Text}
use Rattle.bib_spec.specs.Pieces.{Piece}
use Rattle.history_spec.specs.Steps.{Step}
use Rattle.journal_format.specs.JournalText.{Numbers, numbers, step_text_in, IsStepIn}
use Rattle.journal_format.specs.declared.version.Version.{Version}
use Rattle.journal_format.specs.declared.version.Version.TheVariants.{First, Second}

-- ---- what a text says

-- the text before the first such byte
abbrev pub before_byte : ℕ → Text → Text
before_byte byte [] = []
before_byte byte (b ∷ text) = if b == byte then [] else b ∷ before_byte byte text

-- the text after the first such byte
abbrev pub after_byte : ℕ → Text → Text
after_byte byte [] = []
after_byte byte (b ∷ text) = if b == byte then text else after_byte byte text

-- the first line of the text, and the text after it
abbrev pub line_in : Text → Text
line_in text = before_byte line_feed text

abbrev pub after_line : Text → Text
after_line text = after_byte line_feed text

-- the number with these digits
abbrev pub number_in : Text → ℕ
number_in digits = digits_value 10 digits

-- the three numbers of the line
unfoldable pub numbers_in : Text → Numbers
numbers_in line =
    numbers (number_in (before_byte space line)) (number_in (before_byte space (after_byte space line))) (number_in (after_byte space (after_byte space line)))

-- the piece with these numbers, whose bytes the text begins with
abbrev pub piece_with : Numbers → Text → Piece
piece_with n text = record { place = n.place; old = take n.old_len text; new = take n.new_len (drop n.old_len text) }

-- the first piece of the text, and the text after it
abbrev pub piece_in : Text → Piece
piece_in text = piece_with (numbers_in (line_in text)) (after_line text)

abbrev pub after_numbers : Numbers → Text → Text
after_numbers n text = drop 1 (drop n.new_len (drop n.old_len text))

abbrev pub after_piece : Text → Text
after_piece text = after_numbers (numbers_in (line_in text)) (after_line text)

-- the first pieces of the text, so many, and the text after them
abbrev pub pieces_in : ℕ → Text → List Piece
pieces_in zero text = []
pieces_in (suc n) text = piece_in text ∷ pieces_in n (after_piece text)

abbrev pub after_pieces : ℕ → Text → Text
after_pieces zero text = text
after_pieces (suc n) text = after_pieces n (after_piece text)

-- the pieces after the line of their number, and the text after them
abbrev pub counted_in : Text → List Piece
counted_in text = pieces_in (number_in (line_in text)) (after_line text)

abbrev pub after_counted : Text → Text
after_counted text = after_pieces (number_in (line_in text)) (after_line text)

-- the first step of the text in a journal of this version, and the text after it
unfoldable pub step_in : Version → Text → Step
step_in First text = record { label = []; pieces = counted_in text }
step_in Second text = record { label = line_in text; pieces = counted_in (after_line text) }

unfoldable pub after_step : Version → Text → Text
after_step First text = after_counted text
after_step Second text = after_counted (after_line text)

-- the first steps of the text, so many
abbrev pub steps_in : Version → ℕ → Text → List Step
steps_in version zero text = []
steps_in version (suc n) text = step_in version text ∷ steps_in version n (after_step version text)

-- ---- places

-- where each of the steps begins in their text, if the first begins here
abbrev pub places_from : Version → ℕ → List Step → List ℕ
places_from version place [] = []
places_from version place (step ∷ steps) = place ∷ places_from version (place + length (step_text_in version step)) steps

-- the text begins with steps, so many, and they begin at these places
pub record BeginsWithSteps (version : Version) (count : ℕ) (text : Text) (places : List ℕ) (rest : Text) : Type 0 where
  pub steps : List Step
  pub many : length steps ≡ count
  pub whole : text ≡ flat_map (step_text_in version) steps ++ rest
  pub good : AllByRecursion (IsStepIn version) steps
  pub begin : places ≡ places_from version 0 steps

-- the text is the text of these steps, and they begin at these places
pub record ArePacked (version : Version) (text : Text) (places : List ℕ) (steps : List Step) : Type 0 where
  pub whole : text ≡ flat_map (step_text_in version) steps
  pub good : AllByRecursion (IsStepIn version) steps
  pub begin : places ≡ places_from version 0 steps
