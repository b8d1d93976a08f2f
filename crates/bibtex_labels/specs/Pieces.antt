-- The pieces of a text: its special characters, and its other bytes one by one; and the text characters that BibTeX counts.
use Rattle.std.specs.Prelude.{ℕ, zero, suc, ◌≡◌, ◌+◌, ◌-◌, Bool, ◌&&◌, ◌||◌, not, ◌==◌, List, [], ◌∷◌, ◌++◌, length, take, filter, slice_index, replicate, if◌then◌else◌}
use Rattle.std.specs.List.{flat_map}
use Rattle.std.specs.Str.{bytes_eq}
use Rattle.bib_spec.specs.Bytes.{open_brace, close_brace}
use Rattle.bib_spec.specs.Text.{Text}

-- ---- pieces

-- the backslash, with which a command begins
abbrev pub backslash : ℕ
backslash = 92

-- how many braces are open after a byte; a brace that closes none changes nothing (bibtex 431)
abbrev pub depth_after : ℕ → ℕ → ℕ
depth_after depth byte = if byte == open_brace then depth + 1 else if byte == close_brace then depth - 1 else depth

-- how many braces are open after a text, if `depth` are open before it
abbrev pub depth_from : ℕ → Text → ℕ
depth_from depth [] = depth
depth_from depth (byte ∷ text) = depth_from (depth_after depth byte) text

-- how many bytes there are up to the brace that closes the first of the open braces, with it; all, if none closes it
abbrev pub inside_len : ℕ → Text → ℕ
inside_len zero text = 0
inside_len (suc depth) [] = 0
inside_len (suc depth) (byte ∷ text) = suc (inside_len (depth_after (suc depth) byte) text)

-- a special character begins with this byte: it is a brace at depth 0, and a backslash follows (btxdoc 4)
abbrev pub begins_special : ℕ → ℕ → Text → Bool
begins_special depth byte after = depth == 0 && byte == open_brace && slice_index after 0 == backslash

-- The pieces of a text at this depth, without those of its first `passed` bytes: special characters, and other bytes one by one. A
-- special character goes up to the brace that closes it, or up to the end if none does. (bibtex 432)
abbrev pub pieces_from : ℕ → ℕ → Text → List Text
pieces_from depth passed [] = []
pieces_from depth (suc passed) (byte ∷ text) = pieces_from depth passed text
pieces_from depth zero (byte ∷ text) =
    if begins_special depth byte text then (byte ∷ take (inside_len 1 text) text) ∷ pieces_from 0 (inside_len 1 text) text
    else (byte ∷ []) ∷ pieces_from (depth_after depth byte) 0 text

-- the piece that is this byte
abbrev pub single : ℕ → Text
single byte = byte ∷ []

-- the pieces of a text
abbrev pub pieces : Text → List Text
pieces text = pieces_from 0 0 text

-- these pieces, joined
abbrev pub joined : List Text → Text
joined list = flat_map (λ (piece : Text). piece) list

-- the pieces of each text are the text, cut
abbrev pub pieces_are_the_text : Type 0
pieces_are_the_text = (text : Text) → joined (pieces text) ≡ text

-- ---- text characters

-- the piece is a text character: a special character, or a byte that is no brace (btxhak 5.3)
abbrev pub is_character : Text → Bool
is_character piece = not (bytes_eq piece (open_brace ∷ []) || bytes_eq piece (close_brace ∷ []))

-- how many text characters a text has: `text.length$` (bibtex 441)
abbrev pub text_length : Text → ℕ
text_length text = length (filter is_character (pieces text))

-- the pieces up to the one that is the text character of this number; all, if there are fewer
abbrev pub front_pieces : ℕ → List Text → List Text
front_pieces zero list = []
front_pieces (suc n) [] = []
front_pieces (suc n) (piece ∷ list) = piece ∷ front_pieces (if is_character piece then n else suc n) list

-- the text, and a brace for each that is open at its end
abbrev pub closed : Text → Text
closed text = text ++ replicate (depth_from 0 text) close_brace

-- the first text characters of a text, `n` of them, with the braces before them, which are closed: `text.prefix$` (bibtex 443, 444)
abbrev pub text_prefix : ℕ → Text → Text
text_prefix n text = closed (joined (front_pieces n (pieces text)))
