-- What the definitions say of small files.
use Rattle.std.specs.Prelude.{◌≡◌, List, [], ◌∷◌, codes, None}
use Rattle.bib_spec.specs.Text.{Text}
use Rattle.bib_spec.specs.Tree.{Part, Braced, Macro, Value, Assignment, Row, Brace, Opening, DefinitionTree, EntryTree}
use Rattle.bib_spec.specs.Reading.{Item, Reading, bytes_of}
use Rattle.bib_spec.specs.Records.{EntryTexts, entries_of}
use Rattle.shelf_spec.specs.Shelf.{on_shelf}

-- ---- small files

-- `@` and the type, and an opening brace
abbrev pub opening : Text → Opening
opening kind = record { head = record { space_before_type = []; type_name = kind }; space_before_delimiter = []; delimiter = Brace; space_after = [] }

-- a value of one part
abbrev pub value : Part → Value
value part = record { first = part; links = [] }

-- `name=value`
abbrev pub assignment : Text → Value → Assignment
assignment name v = record { name = name; space_before_equals = []; space_before_value = []; value = v; space_after = [] }

-- `,name=value`
abbrev pub row : Text → Value → Row
row name v = record { space_before_name = []; assignment = assignment name v }

-- `@string{name=value}` with this trail
abbrev pub string_item : Text → Value → Text → Item
string_item name v trail = record { tree = DefinitionTree (record { opening = opening (codes "string"); assignment = assignment name v }); trail = trail }

-- `@misc{key,..}` with this trail
abbrev pub misc_item : Text → List Row → Text → Item
misc_item key rows trail = record {
  tree = EntryTree (record { opening = opening (codes "misc"); key = key; space_after_key = []; rows = rows; last_comma = None });
  trail = trail;
}

-- ---- shelves

-- the file `@string{p={A}}` and LF
abbrev pub strings : Reading
strings = record { front = []; items = string_item (codes "p") (value (Braced (codes "A"))) (codes "\n") ∷ [] }

-- the file `@misc{a,t=p}` and LF
abbrev pub refs : Reading
refs = record { front = []; items = misc_item (codes "a") (row (codes "t") (value (Macro (codes "p"))) ∷ []) (codes "\n") ∷ [] }

-- the entry `a` with this raw text of its field `t`
abbrev pub entry_with : Text → EntryTexts
entry_with raw = record { kind = codes "misc"; key = codes "a"; fields = record { name = codes "t"; raw = raw } ∷ [] }

-- a macro of an earlier file is seen in a later one
abbrev pub EarlierMacroIsSeen : Type 0
EarlierMacroIsSeen = entries_of (on_shelf strings (refs ∷ [])) ≡ entry_with (codes "A") ∷ []

-- a macro of a later file is not seen in an earlier one
abbrev pub LaterMacroIsUnseen : Type 0
LaterMacroIsUnseen = entries_of (on_shelf refs (strings ∷ [])) ≡ entry_with [] ∷ []

-- the files `x@foo ` and `{y}@misc{a}`: with a seam between them no command is made of both
abbrev pub SeamPartsFiles : Type 0
SeamPartsFiles =
    let second : Reading = record { front = codes "{y}"; items = misc_item (codes "a") [] [] ∷ [] } in
    let shelf = on_shelf (record { front = codes "x@foo "; items = [] }) (second ∷ []) in
    bytes_of shelf ≡ codes "x@foo @comment %\n{y}@misc{a}"
