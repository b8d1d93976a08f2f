-- How the files of a shelf lie in its text.
use Rattle.std.specs.Prelude.{ℕ, ◌≡◌, ◌+◌, ◌-◌, List, [], ◌∷◌, length, map, take, drop}
use Rattle.bib_spec.specs.Text.{Text}
use Rattle.shelf_spec.specs.Shelf.{seam, shelf_text}
use Rattle.shelf_spec.specs.Numbers.{located}
use Rattle.bib_shelf.specs.declared.joining.Joined.{Joined}

-- the text of the shelf of these files
abbrev pub text_of : List Text → Text
text_of [] = []
text_of (file ∷ files) = shelf_text file files

-- where each file begins and ends in the text, if the first begins at this place
abbrev pub spans_from : ℕ → List Text → List (ℕ × ℕ)
spans_from at [] = []
spans_from at (file ∷ files) = (at, at + length file) ∷ spans_from ((at + length file) + length seam) files

-- the files of a text, from where each begins and ends in it
abbrev pub files_in : List (ℕ × ℕ) → Text → List Text
files_in spans text = map (λ span. take (span.1 - span.0) (drop span.0 text)) spans

-- the file with this place of the shelf, and the place in that file; in a seam, the end of the file before it
abbrev pub located_in : List Text → ℕ → ℕ × ℕ
located_in [] place = (0, place)
located_in (file ∷ files) place = located file files place

-- the text is that of the shelf of these files, and the spans say where each lies
pub record AreJoined (files : List Text) (joined : Joined) : Type 0 where
  pub text : joined.text ≡ text_of files
  pub spans : joined.spans ≡ spans_from 0 files

-- the text and the spans are those of a shelf of some files
abbrev pub AreOfShelf : Text → List (ℕ × ℕ) → Type 0
AreOfShelf text spans = (files : List Text) × AreJoined files (record { text = text; spans = spans })
