-- Small files, and the first at-sign for which they are not plain. The items are given as trees, with the bytes that they make.
use Rattle.std.specs.Prelude.{ℕ, ◌≡◌, List, [], ◌∷◌, ◌++◌, Option, Some, None, codes, replicate}
use Rattle.bib_spec.specs.Bytes.{delete, letter_x}
use Rattle.bib_spec.specs.Text.{Text}
use Rattle.bib_spec.specs.Tree.{Part, Braced, Digits, Head, Opening, Row, Tree, CommentTree, EntryTree, Brace}
use Rattle.bib_spec.specs.Reading.{Item, Reading, bytes_of}
use Rattle.bibtex_spec.specs.Plain.{not_plain}

-- ---- writing files

-- an at-sign and this type, with no white space between
abbrev pub head : Text → Head
head type_name = record { space_before_type = []; type_name = type_name }

-- `@misc{`
abbrev pub misc_opening : Opening
misc_opening = record { head = head (codes "misc"); space_before_delimiter = []; delimiter = Brace; space_after = [] }

-- a comma, this white space, and `t=` with this part
abbrev pub t_row : Text → Part → Row
t_row space part = record {
  space_before_name = space;
  assignment = record {
    name = codes "t";
    space_before_equals = [];
    space_before_value = [];
    value = record { first = part; links = [] };
    space_after = [];
  };
}

-- `@misc{key, ..}` with these rows
abbrev pub misc : Text → List Row → Tree
misc key rows = EntryTree (record { opening = misc_opening; key = key; space_after_key = []; rows = rows; last_comma = None })

-- the item with this trail
abbrev pub item : Tree → Text → Item
item tree trail = record { tree = tree; trail = trail }

-- the file with this front and these items
abbrev pub file : Text → List Item → Reading
file front items = record { front = front; items = items }

-- `@misc{a}` with this trail
abbrev pub item_a : Text → Item
item_a trail = item (misc (codes "a") []) trail

-- `@misc{b}` with this trail
abbrev pub item_b : Text → Item
item_b trail = item (misc (codes "b") []) trail

-- these are the bytes of the file, and this is the place of the first at-sign for which it is not plain, if there is one
pub record Shows (db : Reading) (text : Text) (at : Option ℕ) : Type 0 where
  pub bytes : bytes_of db ≡ text
  pub place : not_plain db ≡ at

-- ---- the last line

-- `@misc{a,` and, in the next line, ` t=1}@misc{b}`, with this trail
abbrev pub over_two_lines : Text → Reading
over_two_lines trail = file [] (item (misc (codes "a") (t_row (codes "\n ") (Digits (codes "1")) ∷ [])) [] ∷ item_b trail ∷ [])

-- after an item that ends in the last line, BibTeX reads no item
pub record LastLineIsReadOnce : Type 0 where
  pub begun_before : Shows (over_two_lines (codes "\n")) (codes "@misc{a,\n t=1}@misc{b}\n") (Some 14)
  pub empty_last : Shows (over_two_lines (codes "\n\n")) (codes "@misc{a,\n t=1}@misc{b}\n\n") None
  pub unended : Shows (file [] (item_a [] ∷ item_b [] ∷ [])) (codes "@misc{a}@misc{b}") (Some 8)
  pub one_in_last : Shows (file [] (item_a (codes "\n") ∷ item_b (codes "\n") ∷ [])) (codes "@misc{a}\n@misc{b}\n") None
  pub alone : Shows (file [] (item_b [] ∷ [])) (codes "@misc{b}") None

-- an at-sign of text is read, too
pub record TextIsReadInLastLine : Type 0 where
  pub front : Shows (file (codes "joe@x.org ") (item_b (codes "\n") ∷ [])) (codes "joe@x.org @misc{b}\n") (Some 10)
  pub trail : Shows (file [] (item_b (codes " joe@x.org") ∷ [])) (codes "@misc{b} joe@x.org") (Some 12)
  pub empty_last : Shows (file (codes "joe@x.org ") (item_b (codes "\n\n") ∷ [])) (codes "joe@x.org @misc{b}\n\n") None

-- CR LF ends two lines
pub record ReturnEndsALine : Type 0 where
  pub both : Shows (file [] (item_a [] ∷ item_b (codes "\r\n") ∷ [])) (codes "@misc{a}@misc{b}\r\n") None
  pub alone : Shows (file [] (item_a [] ∷ item_b (codes "\r") ∷ [])) (codes "@misc{a}@misc{b}\r") (Some 8)

-- ---- names

-- an at-sign, a name of so many bytes, and two line ends
abbrev pub long_name : ℕ → Text
long_name n = codes "@" ++ (replicate n letter_x ++ codes "\n\n")

-- the name that BibTeX reads after an at-sign has no at-sign, no DEL, and at most 255 bytes
pub record NamesAreThoseOfTheDialect : Type 0 where
  pub at_sign : Shows (file (codes "@ ") (item_a (codes "\n\n") ∷ [])) (codes "@ @misc{a}\n\n") (Some 0)
  pub comment : Shows (file [] (item (CommentTree (head (codes "comment"))) [] ∷ item_a (codes "\n\n") ∷ [])) (codes "@comment@misc{a}\n\n") (Some 0)
  pub braced : Shows (file [] (item (CommentTree (head (codes "comment"))) (codes "{x}") ∷ item_a (codes "\n\n") ∷ [])) (codes "@comment{x}@misc{a}\n\n") None
  pub del : Shows (file (codes "@x" ++ (delete ∷ codes "\n\n")) []) (codes "@x" ++ (delete ∷ codes "\n\n")) (Some 0)
  pub longest : Shows (file (long_name 255) []) (long_name 255) None
  pub too_long : Shows (file (long_name 256) []) (long_name 256) (Some 0)

-- ---- repeated entries

-- `@misc{key,t={@}}` with two line ends
abbrev pub with_at_sign : Text → Item
with_at_sign key = item (misc key (t_row [] (Braced (codes "@")) ∷ [])) (codes "\n\n")

-- an at-sign inside a repeated entry is found, if it is after the key
pub record RepeatedEntryIsLeftAtItsKey : Type 0 where
  pub inside : Shows (file [] (item_a [] ∷ item (misc (codes "a") (t_row (codes " ") (Braced (codes "@misc{b}")) ∷ [])) (codes "\n\n") ∷ []))
      (codes "@misc{a}@misc{a, t={@misc{b}}}\n\n") (Some 20)
  pub folded : Shows (file [] (item_a [] ∷ with_at_sign (codes "A") ∷ [])) (codes "@misc{a}@misc{A,t={@}}\n\n") (Some 19)
  pub empty : Shows (file [] (item (misc [] []) [] ∷ with_at_sign [] ∷ [])) (codes "@misc{}@misc{,t={@}}\n\n") (Some 17)
  pub key : Shows (file [] (item (misc (codes "a@b") []) [] ∷ item (misc (codes "a@b") []) (codes "\n\n") ∷ [])) (codes "@misc{a@b}@misc{a@b}\n\n") None
  pub first : Shows (file [] (with_at_sign (codes "a") ∷ [])) (codes "@misc{a,t={@}}\n\n") None
