-- What the insertion of a text makes of a database, and when it is refused. (dialect)
use Rattle.std.specs.Prelude.{ℕ, zero, suc, ◌≡◌, ◌<◌, Bool, true, false, ◌&&◌, ◌||◌, ◌==◌, not, nat_lt, List, [], ◌∷◌, ◌++◌, length, take, drop, is_some, if◌then◌else◌, None}
use Rattle.std.specs.List.{list_any, last_or}
use Rattle.std.specs.Option.{option_map_or}
use Rattle.bib_spec.specs.Bytes.{file_limit, line_feed}
use Rattle.bib_spec.specs.Text.{Text}
use Rattle.bib_spec.specs.Tree.{Tree, DefinitionTree}
use Rattle.bib_spec.specs.Reading.{Item, Reading, bytes_of}
use Rattle.bib_spec.specs.Texts.{is_empty, too_long_at}
use Rattle.bib_spec.specs.Records.{entries_of, keys_of}
use Rattle.bib_spec.specs.Pieces.{Piece, Chunk, Kept, Replaced, pieces_of_chunks}
use Rattle.edit_spec.specs.EditChunks.{kept_items}
use Rattle.edit_spec.specs.Edits.{EditFault, BadPosition, KeyInUse, NameInUse, WouldMerge, FileTooLong, TextTooLong, rank, HasCleanTexts, holders, definitions, line_end}

-- ---- what is put in

-- the text ends a line: it is empty, or its last byte is a line feed
abbrev pub ends_line : Text → Bool
ends_line t = option_map_or (λ b. b == line_feed) (last_or None t) true

-- the text follows the last item, and the file does not end a line
abbrev pub follows_open_line : ℕ → Reading → Bool
follows_open_line position db = position == length db.items && not (ends_line (bytes_of db))

-- The line end that is put before the text, or nothing: a text that follows an open line gets one, so that it begins a line.
abbrev pub line_end_before : ℕ → Reading → Reading → Text
line_end_before position new db = if follows_open_line position db && not (is_empty (bytes_of new)) then line_end else []

-- ---- the database

-- The front and the items, with the items of the new text put in at this position. The new text's front, after these bytes,
-- joins the text that stands before that position.
abbrev pub put_in : ℕ → Text → Reading → Text → List Item → Reading
put_in position joint new front [] = record { front = front ++ (joint ++ new.front); items = new.items }
put_in zero joint new front (item ∷ items) = record { front = front ++ (joint ++ new.front); items = new.items ++ (item ∷ items) }
put_in (suc position) joint new front (item ∷ items) =
    let rest = put_in position joint new item.trail items in
    record { front = front; items = record item { trail = rest.front } ∷ rest.items }

-- the database with the items of the new text at this position
abbrev pub inserted : ℕ → Reading → Reading → Reading
inserted position new db = put_in position (line_end_before position new db) new db.front db.items

-- ---- the bytes

-- the bytes that are put in, if there are any
abbrev pub put_bytes : Text → List Chunk
put_bytes [] = []
put_bytes (b ∷ t) = Replaced [] (b ∷ t) ∷ []

-- the file in chunks: all is kept, and the new text is put between two items, or before the first, or after the last
abbrev pub chunks : ℕ → Reading → Reading → List Chunk
chunks position new db =
    Kept db.front ∷ (kept_items (take position db.items) ++ (put_bytes (line_end_before position new db ++ bytes_of new) ++ kept_items (drop position db.items)))

-- the pieces of the insertion: one, or none for an empty text
abbrev pub pieces_of : ℕ → Reading → Reading → List Piece
pieces_of position new db = pieces_of_chunks (chunks position new db)

-- ---- refusals

-- the key is that of two entries of the new text, or of an entry of the file
abbrev pub is_taken : Reading → Reading → Text → Bool
is_taken new db key = nat_lt 1 (holders key new) || nat_lt 0 (holders key db)

-- an entry of the new text has the key of another one there, or of an entry of the file
abbrev pub is_key_taken : Reading → Reading → Bool
is_key_taken new db = list_any (is_taken new db) (keys_of (entries_of new))

-- the item defines a macro that the file defines
abbrev pub defines_taken : Reading → Tree → Bool
defines_taken db (DefinitionTree d) = nat_lt 0 (definitions d.assignment.name db)
defines_taken db other = false

-- the new text defines a macro that the file defines
abbrev pub is_name_taken : Reading → Reading → Bool
is_name_taken new db = list_any (λ item. defines_taken db item.tree) new.items

-- The insertion is refused for this reason.
abbrev pub RefusesInsertion : EditFault → ℕ → Reading → Reading → Type 0
RefusesInsertion BadPosition position new db = length db.items < position
RefusesInsertion KeyInUse position new db = is_key_taken new db ≡ true
RefusesInsertion NameInUse position new db = is_name_taken new db ≡ true
RefusesInsertion WouldMerge position new db = HasCleanTexts (inserted position new db) → ⊥
RefusesInsertion FileTooLong position new db = file_limit < length (bytes_of (inserted position new db))
RefusesInsertion TextTooLong position new db = is_some (too_long_at (inserted position new db)) ≡ true
RefusesInsertion other position new db = ⊥

-- no reason refuses the insertion
abbrev pub IsAcceptedInsertion : ℕ → Reading → Reading → Type 0
IsAcceptedInsertion position new db = (fault : EditFault) → RefusesInsertion fault position new db → ⊥

-- no reason refuses the insertion, but perhaps that a text would be too long
abbrev pub IsPlannedInsertion : ℕ → Reading → Reading → Type 0
IsPlannedInsertion position new db = (fault : EditFault) → rank fault < rank TextTooLong → RefusesInsertion fault position new db → ⊥

-- the reason refuses the insertion, and none before it does
pub record IsFirstRefusedInsertion (position : ℕ) (new db : Reading) (fault : EditFault) : Type 0 where
  pub holds : RefusesInsertion fault position new db
  pub first : (other : EditFault) → rank other < rank fault → RefusesInsertion other position new db → ⊥
