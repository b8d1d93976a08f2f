-- The items of a file as trees, white space included: their bytes, and which trees the grammar has.
-- The grammar has a limit on the length of names and keys, which is `name_limit` in every file.
use Rattle.std.specs.Prelude.{ℕ, ◌≡◌, ◌<◌, ◌≤◌, Bool, true, false, ◌&&◌, ◌||◌, not, ◌==◌, List, [], ◌∷◌, ◌++◌, length, codes, All, IsTrue, Option, None, Some, ⊤}
use Rattle.std.specs.List.{flat_map, AllPass}
use Rattle.std.specs.Char.{is_ascii_digit}
use Rattle.bib_spec.specs.Bytes.{quote, hash, open_paren, close_paren, comma, equals_sign, at_sign, open_brace, close_brace}
use Rattle.bib_spec.specs.Text.{Text, is_space, is_name_within, is_type_name, same, does_not_begin_with, IsBalanced, QuotesAreBraced}

-- ---- trees

-- a braced text, a quoted text, digits, or the name of a macro (btxdoc 2.1)
pub data Part : Type 0 where
  Braced Quoted Digits Macro : Text → Part

-- `#` and the part that it joins (btxdoc 2.1)
pub record Link : Type 0 where
  pub space_before_hash : Text
  pub space_after_hash : Text
  pub part : Part

-- parts joined by `#` (btxdoc 2.1)
pub record Value : Type 0 where
  pub first : Part
  pub links : List Link

-- `name = value`, and the white space after it
pub record Assignment : Type 0 where
  pub name : Text
  pub space_before_equals : Text
  pub space_before_value : Text
  pub value : Value
  pub space_after : Text

-- a comma and an assignment
pub record Row : Type 0 where
  pub space_before_name : Text
  pub assignment : Assignment

-- `{` with `}`, or `(` with `)`
pub data Delimiter : Type 0 where
  Brace Paren : Delimiter

-- an at-sign and a type name
pub record Head : Type 0 where
  pub space_before_type : Text
  pub type_name : Text

-- a head, an opening delimiter, and the white space after it
pub record Opening : Type 0 where
  pub head : Head
  pub space_before_delimiter : Text
  pub delimiter : Delimiter
  pub space_after : Text

-- `@string{name = value}` (btxdoc 2.1)
pub record Definition : Type 0 where
  pub opening : Opening
  pub assignment : Assignment

-- `@preamble{value}` (btxdoc 2.1)
pub record Preamble : Type 0 where
  pub opening : Opening
  pub value : Value
  pub space_after : Text

-- `@type{key, name = value, ..}`; a last comma may stand before the close, with white space after it (btxdoc 3)
pub record Entry : Type 0 where
  pub opening : Opening
  pub key : Text
  pub space_after_key : Text
  pub rows : List Row
  pub last_comma : Option Text

-- One of the four kinds of item. A comment is its head alone: what follows is text between items. (dialect)
pub data Tree : Type 0 where
  CommentTree : Head → Tree
  DefinitionTree : Definition → Tree
  PreambleTree : Preamble → Tree
  EntryTree : Entry → Tree

-- ---- the bytes of a tree

-- the bytes of a part, with its braces or quotation marks
abbrev pub part_bytes : Part → Text
part_bytes (Braced t) = open_brace ∷ t ++ close_brace ∷ []
part_bytes (Quoted t) = quote ∷ t ++ quote ∷ []
part_bytes (Digits t) = t
part_bytes (Macro t) = t

-- `#` and its part, with the white space before each
abbrev pub link_bytes : Link → Text
link_bytes l = l.space_before_hash ++ hash ∷ l.space_after_hash ++ part_bytes l.part

-- a value, from the first byte of its first part to the last byte of its last part
abbrev pub value_bytes : Value → Text
value_bytes v = part_bytes v.first ++ flat_map link_bytes v.links

-- the name, the equals sign and the value, with the white space before the equals sign, before the value and after it
abbrev pub assignment_bytes : Assignment → Text
assignment_bytes a =
    a.name ++ a.space_before_equals ++ equals_sign ∷ a.space_before_value ++ value_bytes a.value ++ a.space_after

-- the comma, the white space before the name, and the assignment
abbrev pub row_bytes : Row → Text
row_bytes r = comma ∷ r.space_before_name ++ assignment_bytes r.assignment

-- the byte that opens an item
abbrev pub open_byte : Delimiter → ℕ
open_byte Brace = open_brace
open_byte Paren = open_paren

-- the byte that closes an item
abbrev pub close_byte : Delimiter → ℕ
close_byte Brace = close_brace
close_byte Paren = close_paren

-- the at-sign, white space and the type name
abbrev pub head_bytes : Head → Text
head_bytes h = at_sign ∷ h.space_before_type ++ h.type_name

-- the head, white space, the delimiter and the white space after it
abbrev pub opening_bytes : Opening → Text
opening_bytes o = head_bytes o.head ++ o.space_before_delimiter ++ open_byte o.delimiter ∷ o.space_after

-- a macro definition, from its at-sign to its close
abbrev pub definition_bytes : Definition → Text
definition_bytes d = opening_bytes d.opening ++ assignment_bytes d.assignment ++ close_byte d.opening.delimiter ∷ []

-- a preamble, from its at-sign to its close
abbrev pub preamble_bytes : Preamble → Text
preamble_bytes p = opening_bytes p.opening ++ value_bytes p.value ++ p.space_after ++ close_byte p.opening.delimiter ∷ []

-- the last comma with the white space after it, if there is one
abbrev pub last_comma_bytes : Option Text → Text
last_comma_bytes None = []
last_comma_bytes (Some space_after) = comma ∷ space_after

-- the bytes of an entry after its key
abbrev pub after_key_bytes : Entry → Text
after_key_bytes e =
    e.space_after_key ++ flat_map row_bytes e.rows ++ last_comma_bytes e.last_comma ++ close_byte e.opening.delimiter ∷ []

-- an entry, from its at-sign to its close
abbrev pub entry_bytes : Entry → Text
entry_bytes e = opening_bytes e.opening ++ e.key ++ after_key_bytes e

-- the bytes of an item's body
abbrev pub tree_bytes : Tree → Text
tree_bytes (CommentTree h) = head_bytes h
tree_bytes (DefinitionTree d) = definition_bytes d
tree_bytes (PreambleTree p) = preamble_bytes p
tree_bytes (EntryTree e) = entry_bytes e

-- the item is a comment
abbrev pub is_comment : Tree → Bool
is_comment (CommentTree h) = true
is_comment (DefinitionTree d) = false
is_comment (PreambleTree p) = false
is_comment (EntryTree e) = false

-- ---- the grammar

-- white space, or nothing
abbrev pub IsSpace : Text → Type 0
IsSpace t = AllPass is_space t

-- A part of a value. The braces of braced and of quoted parts match; inside braces a quotation mark does not end a quoted
-- part; a backslash protects nothing. (dialect)
abbrev pub IsPart : ℕ → Part → Type 0
IsPart limit (Braced t) = IsBalanced t
IsPart limit (Quoted t) = IsBalanced t × QuotesAreBraced t
IsPart limit (Digits t) = (0 < length t) × AllPass is_ascii_digit t
IsPart limit (Macro t) = IsTrue (is_name_within limit t)

-- only white space is around the `#`, and a part of the grammar follows
pub record IsLink (limit : ℕ) (l : Link) : Type 0 where
  pub space_before_hash : IsSpace l.space_before_hash
  pub space_after_hash : IsSpace l.space_after_hash
  pub part : IsPart limit l.part

-- each part of the value is a part of the grammar
pub record IsValue (limit : ℕ) (v : Value) : Type 0 where
  pub first : IsPart limit v.first
  pub links : All (IsLink limit) v.links

-- a name and a value, and only white space around the equals sign and after the value
pub record IsAssignment (limit : ℕ) (a : Assignment) : Type 0 where
  pub name : IsTrue (is_name_within limit a.name)
  pub space_before_equals : IsSpace a.space_before_equals
  pub space_before_value : IsSpace a.space_before_value
  pub value : IsValue limit a.value
  pub space_after : IsSpace a.space_after

-- only white space is between the comma and the assignment
pub record IsRow (limit : ℕ) (r : Row) : Type 0 where
  pub space_before_name : IsSpace r.space_before_name
  pub assignment : IsAssignment limit r.assignment

-- only white space is between the at-sign and the type name
pub record IsHead (h : Head) : Type 0 where
  pub space_before_type : IsSpace h.space_before_type
  pub type_name : IsTrue (is_type_name h.type_name)

-- a head, and only white space around the delimiter
pub record IsOpening (o : Opening) : Type 0 where
  pub head : IsHead o.head
  pub space_before_delimiter : IsSpace o.space_before_delimiter
  pub space_after : IsSpace o.space_after

-- a macro definition: its type name is `string`
pub record IsDefinition (limit : ℕ) (d : Definition) : Type 0 where
  pub opening : IsOpening d.opening
  pub type_name : IsTrue (same d.opening.head.type_name (codes "string"))
  pub assignment : IsAssignment limit d.assignment

-- a preamble: its type name is `preamble`
pub record IsPreamble (limit : ℕ) (p : Preamble) : Type 0 where
  pub opening : IsOpening p.opening
  pub type_name : IsTrue (same p.opening.head.type_name (codes "preamble"))
  pub value : IsValue limit p.value
  pub space_after : IsSpace p.space_after

-- The byte can continue a key. A key ends before white space and before a comma; in an item that a brace opens, it also ends
-- before a closing brace. (dialect)
abbrev pub goes_on_key : Delimiter → ℕ → Bool
goes_on_key Brace b = not (is_space b || b == comma || b == close_brace)
goes_on_key Paren b = not (is_space b || b == comma)

-- the word is neither `comment` nor `string` nor `preamble`
abbrev pub is_no_keyword : Text → Bool
is_no_keyword t = not (same t (codes "comment") || same t (codes "string") || same t (codes "preamble"))

-- a type that an entry may have
abbrev pub is_type : Text → Bool
is_type t = is_type_name t && is_no_keyword t

-- only white space follows the last comma, if there is one
abbrev pub IsLastComma : Option Text → Type 0
IsLastComma None = ⊤
IsLastComma (Some space_after) = IsSpace space_after

-- an entry: its type name is no keyword, and its key has at most `limit` bytes
pub record IsEntry (limit : ℕ) (e : Entry) : Type 0 where
  pub opening : IsOpening e.opening
  pub type_name : IsTrue (is_no_keyword e.opening.head.type_name)
  pub key : AllPass (goes_on_key e.opening.delimiter) e.key
  pub key_len : length e.key ≤ limit
  -- the key is as long as it can be: in an item that a parenthesis opens, a `)` directly after the key would belong to it
  pub key_ends : IsTrue (does_not_begin_with (goes_on_key e.opening.delimiter) (after_key_bytes e))
  pub space_after_key : IsSpace e.space_after_key
  -- white space beside an empty key comes before the key
  pub empty_key : e.key ≡ [] → e.space_after_key ≡ []
  pub rows : All (IsRow limit) e.rows
  pub last_comma : IsLastComma e.last_comma

-- a comment: its type name is `comment`
pub record IsComment (h : Head) : Type 0 where
  pub head : IsHead h
  pub type_name : IsTrue (same h.type_name (codes "comment"))

-- a tree of the grammar, with names and keys of at most `limit` bytes
abbrev pub IsTree : ℕ → Tree → Type 0
IsTree limit (CommentTree h) = IsComment h
IsTree limit (DefinitionTree d) = IsDefinition limit d
IsTree limit (PreambleTree p) = IsPreamble limit p
IsTree limit (EntryTree e) = IsEntry limit e
