-- Plain files, in which BibTeX 0.99d reads the items of the file's reading and no others; and the first at-sign of another file
-- that may lead it astray. (To be plain is enough, but not needed: an at-sign that is told here may do no harm.)
-- BibTeX looks for an at-sign, reads what begins with it, and then looks for the next at-sign. It finds the at-sign of each item,
-- and also each at-sign of the front and of a trail.
use Rattle.std.specs.Prelude.{ℕ, ◌+◌, Bool, true, false, not, ◌&&◌, ◌||◌, ◌==◌, nat_lt, List, [], ◌∷◌, ◌++◌, length, drop, Option, None, Some, is_none, if◌then◌else◌}
use Rattle.std.specs.List.{list_any, flat_map, take_while}
use Rattle.bib_spec.specs.Bytes.{line_feed, carriage_return, at_sign, delete, name_limit}
use Rattle.bib_spec.specs.Text.{Text, is_space, is_name_byte, after_run, same}
use Rattle.bib_spec.specs.Tree.{Tree, CommentTree, DefinitionTree, PreambleTree, EntryTree, opening_bytes, after_key_bytes, tree_bytes}
use Rattle.bib_spec.specs.Reading.{Item, Reading, item_bytes}
use Rattle.bib_spec.specs.Texts.{is_empty}

-- ---- the last line

-- CR and LF each end a line, so that after CR LF a second line, which is empty, has ended (bibtex 47)
abbrev pub is_line_end : ℕ → Bool
is_line_end b = b == carriage_return || b == line_feed

-- the text with which a file ends is a part of its last line: no byte of it ends a line, except perhaps the last byte
abbrev pub is_in_last_line : Text → Bool
is_in_last_line [] = true
is_in_last_line (b ∷ rest) = (is_empty rest || not (is_line_end b)) && is_in_last_line rest

-- ---- the name after an at-sign

-- a byte that BibTeX takes into the name of a type: a name byte, or DEL (bibtex 33)
abbrev pub is_run_byte : ℕ → Bool
is_run_byte b = is_name_byte b || b == delete

-- the longest run of such bytes in the text after an at-sign, after the white space at its front (bibtex 90, 238)
abbrev pub name_run : Text → Text
name_run after = take_while is_run_byte (after_run is_space after)

-- a byte that BibTeX takes into the name of a type, and the dialect does not
abbrev pub is_foreign : ℕ → Bool
is_foreign b = b == at_sign || b == delete

-- the run is no type name of the dialect: it has an at-sign or a DEL, or is too long for a name (bibtex 33, 90, 238)
abbrev pub is_misnamed : Text → Bool
is_misnamed after = list_any is_foreign (name_run after) || nat_lt name_limit (length (name_run after))

-- ---- at-signs

-- An at-sign that BibTeX finds, or may find: its place in the file, in bytes from 0, and the text after it; the text after what
-- begins with it, which is an item or the at-sign alone; and whether it is inside an item.
pub record AtSign : Type 0 where
  pub place : ℕ
  pub after : Text
  pub rest : Text
  pub is_inside : Bool

-- the at-signs of a text that begins at this place of the file and has this text after it, if the text is inside an item or not
abbrev pub at_signs_in : Bool → ℕ → Text → Text → List AtSign
at_signs_in inside at [] more = []
at_signs_in inside at (b ∷ text) more =
    if b == at_sign
    then record { place = at; after = text ++ more; rest = text ++ more; is_inside = inside } ∷ at_signs_in inside (at + 1) text more
    else at_signs_in inside (at + 1) text more

-- the at-sign with which an item begins, if this is the text after the item's body
abbrev pub first_sign : ℕ → Tree → Text → AtSign
first_sign at tree more = record { place = at; after = drop 1 (tree_bytes tree) ++ more; rest = more; is_inside = false }

-- The at-signs inside an entry after its key, if one of these earlier keys is the same; the empty key counts. There BibTeX stops
-- at the key, and looks for the next at-sign. (bibtex 268)
abbrev pub inner_signs : List Text → ℕ → Tree → Text → List AtSign
inner_signs keys at (EntryTree e) more =
    if list_any (same e.key) keys
    then at_signs_in true (at + length (opening_bytes e.opening ++ e.key)) (after_key_bytes e) more
    else []
inner_signs keys at (CommentTree h) more = []
inner_signs keys at (DefinitionTree d) more = []
inner_signs keys at (PreambleTree p) more = []

-- the key of an entry, or nothing for other items
abbrev pub key_in : Tree → List Text
key_in (EntryTree e) = e.key ∷ []
key_in (CommentTree h) = []
key_in (DefinitionTree d) = []
key_in (PreambleTree p) = []

-- the at-signs of an item that begins at this place, after entries with these keys, and has this text after its trail
abbrev pub item_signs : List Text → ℕ → Item → Text → List AtSign
item_signs keys at i more =
    (first_sign at i.tree (i.trail ++ more) ∷ inner_signs keys at i.tree (i.trail ++ more))
    ++ at_signs_in false (at + length (tree_bytes i.tree)) i.trail more

-- the at-signs of the items with which a file ends, from this place on, after entries with these keys
abbrev pub at_signs_from : List Text → ℕ → List Item → List AtSign
at_signs_from keys at [] = []
at_signs_from keys at (i ∷ items) =
    item_signs keys at i (flat_map item_bytes items) ++ at_signs_from (keys ++ key_in i.tree) (at + length (item_bytes i)) items

-- the at-signs of a file that BibTeX finds or may find, in order
abbrev pub at_signs_of : Reading → List AtSign
at_signs_of db = at_signs_in false 0 db.front (flat_map item_bytes db.items) ++ at_signs_from [] (length db.front) db.items

-- ---- plain files

-- The place of the first at-sign that breaks a rule. If what begins with the at-sign before it ends in the last line, BibTeX reads
-- nothing after that (bibtex 223, 237). It must not be inside an item, and the run after it must be a name of the dialect.
abbrev pub first_breach : Bool → List AtSign → Option ℕ
first_breach is_over [] = None
first_breach is_over (sign ∷ signs) =
    if is_over || (sign.is_inside || is_misnamed sign.after) then Some sign.place else first_breach (is_in_last_line sign.rest) signs

-- the place of the first at-sign for which a file is not plain, if there is one
abbrev pub not_plain : Reading → Option ℕ
not_plain db = first_breach false (at_signs_of db)

-- BibTeX reads the items of the file, and no others
abbrev pub is_plain : Reading → Bool
is_plain db = is_none (not_plain db)
