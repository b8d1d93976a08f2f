-- Small files, and what the definitions say of them, byte by byte; and for each condition of an edit a small file that would
-- go wrong without it.
use Rattle.std.specs.Prelude.{◌≡◌, ℕ, ◌-◌, true, false, List, [], ◌∷◌, ◌++◌, Some, None, unwrap_or, if◌then◌else◌, length, take, drop, slice_get, codes, map, find, bytes_eq}
use Rattle.std.specs.List.{last_or}
use Rattle.std.specs.Option.{option_map_or}
use Rattle.bib_spec.specs.Text.{Text}
use Rattle.bib_spec.specs.Tree.{Part, Braced, Quoted, Digits, Macro, Value, Row, Delimiter, Brace, Paren, Opening, CommentTree, DefinitionTree, PreambleTree, EntryTree}
use Rattle.bib_spec.specs.Reading.{Item, Reading, bytes_of}
use Rattle.bib_spec.specs.Texts.{is_empty, words, field_text, seen}
use Rattle.bib_spec.specs.Records.{Record, entries_of, preambles_of, keys_of, crossref_text, dangling_texts, is_repeated, target, parent, expanded, listed, unknown}
use Rattle.bib_spec.specs.Pieces.{Piece}
use Rattle.bib_spec.specs.MadeKeys.{free_key, IsKeyBase}
use Rattle.edit_spec.specs.Edits.{NewEntry, Edit, SetField, DropField, AddEntry, RemoveEntry, MoveEntry, RenameKey, RenameMacro, InlineMacro, IntroduceMacro, RegenerateKeys, AddMany, SetType, UndefineMacro, RenameField, DefineMacro, SetMacro, Which, SetsField, DropsField, RenamesFields, SetsType, RenamesKey, Removes, Moves, SetsValue, Undefines, ChangeEntry, ChangeDefinition, edited, Refuses, IsAccepted, BadKey, BadName, BadValue, BadPosition, NotFound, Ambiguous, KeyInUse, NameInUse, Referred, WouldMerge}
use Rattle.edit_spec.specs.EditChunks.{pieces_of}
use Rattle.edit_spec.specs.Laws.{dependents}

-- ---- writing small files

-- a value of one part
abbrev pub only : Part → Value
only part = record { first = part; links = [] }

-- two parts, with ` # ` between them
abbrev pub both : Part → Part → Value
both part other = record { first = part; links = record { space_before_hash = codes " "; space_after_hash = codes " "; part = other } ∷ [] }

-- `, name = value`
abbrev pub spaced : Text → Value → Row
spaced name value = record {
  space_before_name = codes " ";
  assignment = record { name = name; space_before_equals = codes " "; space_before_value = codes " "; value = value; space_after = [] };
}

-- `,name=value`
abbrev pub tight : Text → Value → Row
tight name value = record {
  space_before_name = [];
  assignment = record { name = name; space_before_equals = []; space_before_value = []; value = value; space_after = [] };
}

-- `@kind{`, or `@kind(`, without white space
abbrev pub opened : Delimiter → Text → Opening
opened delimiter kind = record {
  head = record { space_before_type = []; type_name = kind };
  space_before_delimiter = [];
  delimiter = delimiter;
  space_after = [];
}

-- `@kind{key, ..}`, and the text after it
abbrev pub entry : Text → Text → List Row → Text → Item
entry kind key rows trail = record {
  tree = EntryTree (record { opening = opened Brace kind; key = key; space_after_key = []; rows = rows; last_comma = None });
  trail = trail;
}

-- `@misc{key, ..}`
abbrev pub misc : Text → List Row → Item
misc key rows = entry (codes "misc") key rows []

-- `@string{name={text}}`
abbrev pub string : Text → Value → Item
string name value = record {
  tree = DefinitionTree (record {
    opening = opened Brace (codes "string");
    assignment = record { name = name; space_before_equals = []; space_before_value = []; value = value; space_after = [] };
  });
  trail = [];
}

-- an item with this text after it
abbrev pub with_trail : Text → Item → Item
with_trail trail item = record item { trail = trail }

-- the file that has these items and nothing before them
abbrev pub file : List Item → Reading
file items = record { front = []; items = items }

-- ---- a key base for the examples

-- the text of the record's field of this name, or the empty text if it has none
abbrev pub text_of_field : Text → Record → Text
text_of_field name r = option_map_or (λ f. f.1) (find (λ f. bytes_eq f.0 name) r.fields) []

-- three letters of the author's last word, or `anon`
abbrev pub author_letters : Text → Text
author_letters author = if is_empty author then codes "anon" else take 3 (unwrap_or (last_or None (words author)) [])

-- three letters of the author, and two digits of the year
abbrev pub author_year : Record → Text
author_year r =
    let year : Text = text_of_field (codes "year") r in
    author_letters (text_of_field (codes "author") r) ++ drop (length year - 2) year

-- ---- what is read

-- the field texts of entry n at this depth
abbrev pub texts_at : ℕ → Reading → ℕ → List Text
texts_at depth db n = option_map_or (λ r. map (λ f. f.1) r.fields) (expanded depth (entries_of db) n) []

-- the names and field texts of entry n at this depth
abbrev pub fields_of : ℕ → Reading → ℕ → List (Text × Text)
fields_of depth db n = option_map_or (λ r. r.fields) (expanded depth (entries_of db) n) []

-- the one with this number of those that have the name
abbrev pub nth : Text → ℕ → Which
nth name number = record { name = name; number = Some number }

-- the only one of the name
abbrev pub lone : Text → Which
lone name = record { name = name; number = None }

-- the file after an edit
abbrev pub file_after : Reading → Edit → Text
file_after db e = bytes_of (edited author_year db e)

-- the pieces of an edit
abbrev pub pieces : Reading → Edit → List Piece
pieces db e = pieces_of author_year db e

-- ---- macros

-- the macro `p` is defined twice, with a use after each definition
abbrev pub defined_twice : Reading
defined_twice = file (
    string (codes "p") (only (Braced (codes "A"))) ∷ misc (codes "a") (tight (codes "t") (only (Macro (codes "p"))) ∷ [])
    ∷ string (codes "p") (only (Braced (codes "B"))) ∷ misc (codes "b") (tight (codes "t") (only (Macro (codes "p"))) ∷ []) ∷ [])

-- a use of a macro means the last definition before it; if there is none, it means the month of that name
pub record MacroIsReadWhereItStands : Type 0 where
  pub bytes : bytes_of defined_twice ≡ codes "@string{p={A}}@misc{a,t=p}@string{p={B}}@misc{b,t=p}"
  pub first : texts_at 1 defined_twice 0 ≡ codes "A" ∷ []
  pub second : texts_at 1 defined_twice 1 ≡ codes "B" ∷ []
  pub at_head : seen defined_twice 0 (codes "p") ≡ None
  pub after : seen defined_twice 1 (codes "p") ≡ Some (codes "A")
  pub at_end : seen defined_twice 4 (codes "p") ≡ Some (codes "B")
  pub month : seen defined_twice 0 (codes "MAY") ≡ Some (codes "May")
  pub renamed : Refuses author_year Ambiguous defined_twice (RenameMacro (codes "p") (codes "q"))

-- a definition of `jan` that uses `jan`, and an entry that uses it after that
abbrev pub overridden_month : Reading
overridden_month = file (
    record {
      tree = DefinitionTree (record {
        opening = opened Brace (codes "string");
        assignment = record { name = codes "jan"; space_before_equals = codes " "; space_before_value = codes " "; value = both (Macro (codes "jan")) (Braced (codes " x")); space_after = [] };
      });
      trail = [];
    }
    ∷ misc (codes "a") (spaced (codes "month") (only (Macro (codes "jan"))) ∷ []) ∷ [])

-- in its own definition a macro gives nothing; renaming the macro changes that use as every later one
pub record MonthIsOverridden : Type 0 where
  pub bytes : bytes_of overridden_month ≡ codes "@string{jan = jan # { x}}@misc{a, month = jan}"
  pub text : texts_at 1 overridden_month 0 ≡ codes "x" ∷ []
  pub renamed : file_after overridden_month (RenameMacro (codes "jan") (codes "j")) ≡ codes "@string{j = j # { x}}@misc{a, month = j}"
  pub text_renamed : texts_at 1 (edited author_year overridden_month (RenameMacro (codes "jan") (codes "j"))) 0 ≡ codes "x" ∷ []
  pub respelled : file_after overridden_month (RenameMacro (codes "jan") (codes "JAN")) ≡ codes "@string{JAN = JAN # { x}}@misc{a, month = JAN}"
  pub pieces : map (λ p. p.place) (pieces overridden_month (RenameMacro (codes "jan") (codes "JAN"))) ≡ 8 ∷ 14 ∷ 42 ∷ []
  pub month_alone : Refuses author_year NotFound overridden_month (RenameMacro (codes "feb") (codes "j"))
  pub to_month : Refuses author_year NameInUse overridden_month (RenameMacro (codes "jan") (codes "May"))

-- the macro `m` has a text with a quotation mark in it, and one use, joined to the digit 1
abbrev pub quoting : Reading
quoting = file (
    record {
      tree = DefinitionTree (record {
        opening = opened Brace (codes "string");
        assignment = record { name = codes "m"; space_before_equals = codes " "; space_before_value = codes " "; value = both (Quoted (codes "a")) (Braced (codes "\"")); space_after = [] };
      });
      trail = [];
    }
    ∷ misc (codes "k") (spaced (codes "t") (both (Macro (codes "m")) (Digits (codes "1"))) ∷ []) ∷ [])

-- the macro `m` uses `x`, and `x` is defined again before `m` is used
abbrev pub redefined_inside : Reading
redefined_inside = file (
    string (codes "x") (only (Braced (codes "1"))) ∷ string (codes "m") (only (Macro (codes "x")))
    ∷ string (codes "x") (only (Braced (codes "2"))) ∷ misc (codes "k") (tight (codes "t") (only (Macro (codes "m"))) ∷ []) ∷ [])

-- inlining replaces a use by the text that the use gave, not by the parts of the macro's definition
pub record MacroIsInlinedAsText : Type 0 where
  pub bytes : bytes_of quoting ≡ codes "@string{m = \"a\" # {\"}}@misc{k, t = m # 1}"
  pub inlined : file_after quoting (InlineMacro (codes "m")) ≡ codes "@misc{k, t = {a\"} # 1}"
  pub redefined : bytes_of redefined_inside ≡ codes "@string{x={1}}@string{m=x}@string{x={2}}@misc{k,t=m}"
  pub redefined_inlined : file_after redefined_inside (InlineMacro (codes "m")) ≡ codes "@string{x={1}}@string{x={2}}@misc{k,t={1}}"
  pub pieces : pieces redefined_inside (InlineMacro (codes "m")) ≡
      record { place = 14; old = codes "@string{m=x}"; new = [] } ∷ record { place = 50; old = codes "m"; new = codes "{1}" } ∷ []

-- a value with the text `x` twice, once in braces and once in quotation marks
abbrev pub same_text_twice : Reading
same_text_twice = file (misc (codes "a") (spaced (codes "t") (both (Braced (codes "x")) (Quoted (codes "x"))) ∷ []) ∷ [])

-- a part in braces and one in quotes become uses of one macro
pub record TextGetsName : Type 0 where
  pub bytes : bytes_of same_text_twice ≡ codes "@misc{a, t = {x} # \"x\"}"
  pub introduced : file_after same_text_twice (IntroduceMacro (codes "m") (codes "x")) ≡ codes "@string{m = {x}}\n@misc{a, t = m # m}"
  pub pieces : map (λ p. p.place) (pieces same_text_twice (IntroduceMacro (codes "m") (codes "x"))) ≡ 0 ∷ 13 ∷ 19 ∷ []
  pub month : Refuses author_year NameInUse same_text_twice (IntroduceMacro (codes "may") (codes "x"))
  pub no_part : Refuses author_year NotFound same_text_twice (IntroduceMacro (codes "m") (codes "y"))

-- two macros, and a remark before the first entry, which uses the second
abbrev pub with_remark : Reading
with_remark = file (
    string (codes "a") (only (Braced (codes "A")))
    ∷ with_trail (codes "\n\n% first\n") (string (codes "b") (both (Macro (codes "a")) (Braced (codes "B"))))
    ∷ misc (codes "k") (tight (codes "t") (only (Macro (codes "b"))) ∷ tight (codes "u") (only (Braced (codes "U"))) ∷ []) ∷ [])

-- A definition is put after the last definition before the first entry, in a line of its own: the remark stays at its entry. If
-- there is no such definition, it comes before the first item, or at the end of a file without items. A name that has a definition
-- is refused, and a month is none.
pub record DefinitionIsAdded : Type 0 where
  pub bytes : bytes_of with_remark ≡ codes "@string{a={A}}@string{b=a # {B}}\n\n% first\n@misc{k,t=b,u={U}}"
  pub added : file_after with_remark (DefineMacro (codes "c") (only (Quoted (codes "C"))))
      ≡ codes "@string{a={A}}@string{b=a # {B}}\n@string{c = \"C\"}\n\n% first\n@misc{k,t=b,u={U}}"
  pub piece : pieces with_remark (DefineMacro (codes "c") (only (Quoted (codes "C")))) ≡ record { place = 32; old = []; new = codes "\n@string{c = \"C\"}" } ∷ []
  pub before_entry : file_after defined_twice (DefineMacro (codes "q") (only (Digits (codes "1"))))
      ≡ codes "@string{p={A}}\n@string{q = 1}@misc{a,t=p}@string{p={B}}@misc{b,t=p}"
  pub first : file_after same_text_twice (DefineMacro (codes "q") (only (Digits (codes "1")))) ≡ codes "@string{q = 1}\n@misc{a, t = {x} # \"x\"}"
  pub no_item : file_after (record { front = codes "% x\n"; items = [] }) (DefineMacro (codes "q") (only (Digits (codes "1")))) ≡ codes "% x\n@string{q = 1}\n"
  pub month : file_after (file []) (DefineMacro (codes "may") (only (Digits (codes "5")))) ≡ codes "@string{may = 5}\n"
  pub defined : Refuses author_year NameInUse defined_twice (DefineMacro (codes "P") (only (Digits (codes "1"))))

-- Another value of a macro changes the texts of what uses it, also through another macro, and no others.
pub record MacroGetsValue : Type 0 where
  pub set : file_after with_remark (SetMacro (codes "A") (both (Digits (codes "1")) (Braced (codes "2"))))
      ≡ codes "@string{a=1 # {2}}@string{b=a # {B}}\n\n% first\n@misc{k,t=b,u={U}}"
  pub piece : pieces with_remark (SetMacro (codes "A") (only (Digits (codes "1")))) ≡ record { place = 10; old = codes "{A}"; new = codes "1" } ∷ []
  pub old_texts : texts_at 1 with_remark 0 ≡ codes "AB" ∷ codes "U" ∷ []
  pub new_texts : texts_at 1 (edited author_year with_remark (SetMacro (codes "A") (only (Digits (codes "1"))))) 0 ≡ codes "1B" ∷ codes "U" ∷ []
  pub dependents_are : dependents (codes "a" ∷ []) with_remark.items ≡ codes "b" ∷ codes "a" ∷ []
  pub twice : Refuses author_year Ambiguous defined_twice (SetMacro (codes "p") (only (Digits (codes "1"))))
  pub month : Refuses author_year NotFound with_remark (SetMacro (codes "may") (only (Digits (codes "5"))))

-- ---- one of several

-- three entries with the key `b`, in the first of which the field `t` is there three times, and a crossref that names `b`
abbrev pub thrice : Reading
thrice = file (
    misc (codes "b") (tight (codes "t") (only (Braced (codes "A"))) ∷ tight (codes "T") (only (Braced (codes "B"))) ∷ tight (codes "t") (only (Braced (codes "C"))) ∷ [])
    ∷ misc (codes "B") (tight (codes "t") (only (Braced (codes "D"))) ∷ [])
    ∷ misc (codes "b") []
    ∷ misc (codes "a") (tight (codes "crossref") (only (Braced (codes "b"))) ∷ []) ∷ [])

-- A number says which of several entries is meant, or which of several fields, in file order. A crossref names the first entry
-- that has its key, so no crossref follows a later one to its new key.
pub record OneOfSeveralChanges : Type 0 where
  pub bytes : bytes_of thrice ≡ codes "@misc{b,t={A},T={B},t={C}}@misc{B,t={D}}@misc{b}@misc{a,crossref={b}}"
  pub removed : file_after thrice (ChangeEntry (nth (codes "b") 1) Removes) ≡ codes "@misc{b,t={A},T={B},t={C}}@misc{b}@misc{a,crossref={b}}"
  pub removed_pieces : pieces thrice (ChangeEntry (nth (codes "b") 1) Removes) ≡ record { place = 26; old = codes "@misc{B,t={D}}"; new = [] } ∷ []
  pub field_dropped : file_after thrice (ChangeEntry (nth (codes "b") 0) (DropsField (nth (codes "t") 1))) ≡ codes "@misc{b,t={A},t={C}}@misc{B,t={D}}@misc{b}@misc{a,crossref={b}}"
  pub field_set : file_after thrice (ChangeEntry (nth (codes "b") 0) (SetsField (nth (codes "t") 2) (only (Digits (codes "1")))))
      ≡ codes "@misc{b,t={A},T={B},t=1}@misc{B,t={D}}@misc{b}@misc{a,crossref={b}}"
  pub field_pieces : pieces thrice (ChangeEntry (nth (codes "b") 0) (SetsField (nth (codes "t") 2) (only (Digits (codes "1"))))) ≡ record { place = 22; old = codes "{C}"; new = codes "1" } ∷ []
  pub field_added : file_after thrice (ChangeEntry (nth (codes "b") 1) (SetsField (lone (codes "y")) (only (Digits (codes "2")))))
      ≡ codes "@misc{b,t={A},T={B},t={C}}@misc{B,t={D},\n  y = 2}@misc{b}@misc{a,crossref={b}}"
  pub fields_renamed : file_after thrice (ChangeEntry (nth (codes "b") 1) (RenamesFields (codes "t") (codes "u")))
      ≡ codes "@misc{b,t={A},T={B},t={C}}@misc{B,u={D}}@misc{b}@misc{a,crossref={b}}"
  pub typed : file_after thrice (ChangeEntry (nth (codes "b") 2) (SetsType (codes "book"))) ≡ codes "@misc{b,t={A},T={B},t={C}}@misc{B,t={D}}@book{b}@misc{a,crossref={b}}"
  pub later_key : file_after thrice (ChangeEntry (nth (codes "b") 1) (RenamesKey (codes "c"))) ≡ codes "@misc{b,t={A},T={B},t={C}}@misc{c,t={D}}@misc{b}@misc{a,crossref={b}}"
  pub first_key : file_after thrice (ChangeEntry (nth (codes "b") 0) (RenamesKey (codes "c"))) ≡ codes "@misc{c,t={A},T={B},t={C}}@misc{B,t={D}}@misc{b}@misc{a,crossref={c}}"
  pub moved : file_after thrice (ChangeEntry (nth (codes "b") 1) (Moves 3)) ≡ codes "@misc{b,t={A},T={B},t={C}}@misc{b}@misc{a,crossref={b}}@misc{B,t={D}}\n"
  pub no_fourth : Refuses author_year NotFound thrice (ChangeEntry (nth (codes "b") 3) Removes)
  pub no_field : Refuses author_year NotFound thrice (ChangeEntry (nth (codes "b") 1) (SetsField (nth (codes "t") 1) (only (Digits (codes "1")))))
  pub no_number : Refuses author_year Ambiguous thrice (ChangeEntry (lone (codes "b")) (DropsField (nth (codes "t") 1)))
  pub no_field_number : Refuses author_year Ambiguous thrice (ChangeEntry (nth (codes "b") 0) (DropsField (lone (codes "t"))))
  pub taken : Refuses author_year KeyInUse thrice (ChangeEntry (nth (codes "b") 1) (RenamesKey (codes "A")))
  pub taken_by_others : Refuses author_year KeyInUse thrice (ChangeEntry (nth (codes "b") 1) (RenamesKey (codes "b")))
  pub parent : Refuses author_year Referred thrice (ChangeEntry (nth (codes "b") 0) Removes)

-- the macro `m` is defined twice; its first definition is used by none, and its second by an entry
abbrev pub first_unused : Reading
first_unused = file (
    string (codes "m") (only (Braced (codes "A"))) ∷ string (codes "M") (both (Macro (codes "m")) (Braced (codes "B")))
    ∷ misc (codes "a") (tight (codes "t") (only (Macro (codes "m"))) ∷ []) ∷ [])

-- One of several definitions of a macro gets a value, or is removed if no use sees it. A use sees the last definition before it, and
-- in its own definition a macro stands for nothing.
pub record OneDefinitionChanges : Type 0 where
  pub set : file_after defined_twice (ChangeDefinition (codes "p") 1 (SetsValue (only (Digits (codes "1"))))) ≡ codes "@string{p={A}}@misc{a,t=p}@string{p=1}@misc{b,t=p}"
  pub set_pieces : pieces defined_twice (ChangeDefinition (codes "p") 1 (SetsValue (only (Digits (codes "1"))))) ≡ record { place = 36; old = codes "{B}"; new = codes "1" } ∷ []
  pub undefined : file_after first_unused (ChangeDefinition (codes "m") 0 Undefines) ≡ codes "@string{M=m # {B}}@misc{a,t=m}"
  pub unseen : Refuses author_year Referred first_unused (ChangeDefinition (codes "m") 0 Undefines) → ⊥
  pub seen_first : Refuses author_year Referred defined_twice (ChangeDefinition (codes "p") 0 Undefines)
  pub seen_last : Refuses author_year Referred first_unused (ChangeDefinition (codes "m") 1 Undefines)
  pub no_third : Refuses author_year NotFound defined_twice (ChangeDefinition (codes "p") 2 Undefines)

-- a use of `m` before its definition, and one after it
abbrev pub used_before : Reading
used_before = file (
    misc (codes "a") (spaced (codes "t") (only (Macro (codes "m"))) ∷ [])
    ∷ record {
      tree = DefinitionTree (record {
        opening = opened Brace (codes "string");
        assignment = record { name = codes "m"; space_before_equals = codes " "; space_before_value = codes " "; value = only (Digits (codes "1")); space_after = [] };
      });
      trail = [];
    }
    ∷ misc (codes "b") (spaced (codes "t") (only (Macro (codes "m"))) ∷ []) ∷ [])

-- a use before the definition means something else, so it is unchanged; digits are no text that can get a name
pub record UseBeforeDefinitionIsLeft : Type 0 where
  pub bytes : bytes_of used_before ≡ codes "@misc{a, t = m}@string{m = 1}@misc{b, t = m}"
  pub renamed : file_after used_before (RenameMacro (codes "m") (codes "n")) ≡ codes "@misc{a, t = m}@string{n = 1}@misc{b, t = n}"
  pub digits : Refuses author_year NotFound used_before (IntroduceMacro (codes "k") (codes "1"))

-- `@preamble{value}`
abbrev pub preamble : Value → Item
preamble value = record { tree = PreambleTree (record { opening = opened Brace (codes "preamble"); value = value; space_after = [] }); trail = [] }

-- a preamble with two texts joined
abbrev pub joined_text : Reading
joined_text = file (preamble (both (Quoted (codes "a")) (Braced (codes " b"))) ∷ [])

-- the texts of parts are joined unchanged; a field text has one space for each run of white space, and none at its ends
pub record TextsAreJoined : Type 0 where
  pub bytes : bytes_of joined_text ≡ codes "@preamble{\"a\" # { b}}"
  pub preamble_text : preambles_of joined_text ≡ codes "a b" ∷ []
  pub squeezed : field_text (codes " a \n\tb ") ≡ codes "a b"

-- ---- fields

-- `@misc{a, t = 1,}`
abbrev pub one_field : Reading
one_field = file (record {
  tree = EntryTree (record { opening = opened Brace (codes "misc"); key = codes "a"; space_after_key = []; rows = spaced (codes "t") (only (Digits (codes "1"))) ∷ []; last_comma = Some [] });
  trail = [];
} ∷ [])

-- `@misc(a, t=1)`, with this white space before the close
abbrev pub in_parentheses : Text → Reading
in_parentheses space = file (record {
  tree = EntryTree (record {
    opening = opened Paren (codes "misc");
    key = codes "a";
    space_after_key = [];
    rows = record {
      space_before_name = codes " ";
      assignment = record { name = codes "t"; space_before_equals = []; space_before_value = []; value = only (Digits (codes "1")); space_after = space };
    } ∷ [];
    last_comma = None;
  });
  trail = [];
} ∷ [])

-- a new field is put after the last value; a dropped field takes its comma along
pub record FieldIsSetAndDropped : Type 0 where
  pub bytes : bytes_of one_field ≡ codes "@misc{a, t = 1,}"
  pub set : file_after one_field (SetField (codes "a") (codes "y") (only (Braced (codes "2")))) ≡ codes "@misc{a, t = 1,\n  y = {2},}"
  pub set_pieces : pieces one_field (SetField (codes "a") (codes "y") (only (Braced (codes "2")))) ≡ record { place = 14; old = []; new = codes ",\n  y = {2}" } ∷ []
  pub replaced : file_after one_field (SetField (codes "A") (codes "T") (only (Digits (codes "7")))) ≡ codes "@misc{a, t = 7,}"
  pub dropped : file_after one_field (DropField (codes "a") (codes "T")) ≡ codes "@misc{a,}"
  pub missing : Refuses author_year NotFound one_field (DropField (codes "a") (codes "q"))
  pub no_name : Refuses author_year BadName one_field (SetField (codes "a") (codes "1") (only (Braced (codes "2"))))
  pub no_value : Refuses author_year BadValue one_field (SetField (codes "a") (codes "t") (only (Macro (codes "{x"))))
  pub close_bytes : bytes_of (in_parentheses []) ≡ codes "@misc(a, t=1)"
  pub close_in_key : Refuses author_year WouldMerge (in_parentheses []) (DropField (codes "a") (codes "t"))
  pub close_apart : file_after (in_parentheses (codes " ")) (DropField (codes "a") (codes "t")) ≡ codes "@misc(a )"

-- an entry with the field `t` twice, and a second entry with the first one's key, in the other case
abbrev pub field_and_key_twice : Reading
field_and_key_twice = file (
    misc (codes "a") (spaced (codes "t") (only (Macro (codes "u"))) ∷ spaced (codes "T") (only (Digits (codes "1"))) ∷ [])
    ∷ entry (codes "misc") (codes "A") [] [] ∷ [])

-- the first field of a name counts, and so does the first entry of a key
pub record FirstCounts : Type 0 where
  pub bytes : bytes_of field_and_key_twice ≡ codes "@misc{a, t = u, T = 1}@misc{A}"
  pub effective : fields_of 1 field_and_key_twice 0 ≡ (codes "t", []) ∷ []
  pub first_key : is_repeated (entries_of field_and_key_twice) 0 ≡ false
  pub second_key : is_repeated (entries_of field_and_key_twice) 1 ≡ true
  pub set : Refuses author_year Ambiguous field_and_key_twice (SetField (codes "a") (codes "t") (only (Digits (codes "2"))))

-- ---- entries

-- two entries, each in a line
abbrev pub two_lines : Reading
two_lines = file (entry (codes "misc") (codes "a") [] (codes "\n") ∷ entry (codes "misc") (codes "b") [] (codes "\n") ∷ [])

-- `@book{c, title = {T}}`, to be added
abbrev pub book : NewEntry
book = record { kind_name = codes "book"; key = codes "c"; fields = (codes "title", only (Braced (codes "T"))) ∷ [] }

-- an added entry gets lines of its own; a moved entry leaves behind the end of its old line
pub record EntriesAreAddedAndMoved : Type 0 where
  pub bytes : bytes_of two_lines ≡ codes "@misc{a}\n@misc{b}\n"
  pub added : file_after two_lines (AddEntry 1 book) ≡ codes "@misc{a}\n@book{c,\n  title = {T}\n}\n@misc{b}\n"
  pub moved : file_after two_lines (MoveEntry (codes "a") 1) ≡ codes "\n@misc{b}\n@misc{a}\n"
  pub moved_pieces : pieces two_lines (MoveEntry (codes "a") 1) ≡
      record { place = 0; old = codes "@misc{a}"; new = [] } ∷ record { place = 18; old = []; new = codes "@misc{a}\n" } ∷ []
  pub too_high : Refuses author_year BadPosition two_lines (MoveEntry (codes "a") 2)
  pub respelled : file_after two_lines (RenameKey (codes "a") (codes "A")) ≡ codes "@misc{A}\n@misc{b}\n"
  pub taken : Refuses author_year KeyInUse two_lines (RenameKey (codes "a") (codes "B"))
  pub no_key : Refuses author_year BadKey two_lines (RenameKey (codes "a") (codes "b c"))

-- `a@foo \n@misc{k}{b`: without the entry, `@foo {` would begin a command
abbrev pub address_before : Reading
address_before = record { front = codes "a@foo \n"; items = entry (codes "misc") (codes "k") [] (codes "{b") ∷ [] }

-- `@comment@misc{k}s`: a comment directly before an entry, and a letter directly after it
abbrev pub comment_before : Reading
comment_before = file (
    record { tree = CommentTree (record { space_before_type = []; type_name = codes "comment" }); trail = [] }
    ∷ entry (codes "misc") (codes "k") [] (codes "s") ∷ [])

-- the text that a removal joins may become a command, or lengthen a comment's name
pub record JoinedTextStaysText : Type 0 where
  pub address : bytes_of address_before ≡ codes "a@foo \n@misc{k}{b"
  pub no_command : Refuses author_year WouldMerge address_before (RemoveEntry (codes "k"))
  pub comment : bytes_of comment_before ≡ codes "@comment@misc{k}s"
  pub no_other_name : Refuses author_year WouldMerge comment_before (RemoveEntry (codes "k"))

-- two entries with text before, between and after them
abbrev pub texts_between : Reading
texts_between = record { front = codes "abc"; items = entry (codes "misc") (codes "k") [] (codes "s") ∷ entry (codes "misc") (codes "l") [] (codes "t") ∷ [] }

-- the text after a removed item joins the text before it: the front, or another item's trail
pub record TrailJoinsTextBefore : Type 0 where
  pub bytes : bytes_of texts_between ≡ codes "abc@misc{k}s@misc{l}t"
  pub first : file_after texts_between (RemoveEntry (codes "k")) ≡ codes "abcs@misc{l}t"
  pub front : (edited author_year texts_between (RemoveEntry (codes "k"))).front ≡ codes "abcs"
  pub second : file_after texts_between (RemoveEntry (codes "l")) ≡ codes "abc@misc{k}st"
  pub trails : map (λ item. item.trail) (edited author_year texts_between (RemoveEntry (codes "l"))).items ≡ codes "st" ∷ []

-- ---- crossrefs

-- `, title = {t}`
abbrev pub title : Text → Row
title t = spaced (codes "title") (only (Braced t))

-- `, crossref = {key}`
abbrev pub cites : Text → Row
cites key = spaced (codes "crossref") (only (Braced key))

-- three papers with one parent
abbrev pub conference : Reading
conference = file (
    entry (codes "inproceedings") (codes "c1") (title (codes "One") ∷ cites (codes "p") ∷ []) (codes "\n")
    ∷ entry (codes "inproceedings") (codes "c2") (title (codes "Two") ∷ cites (codes "P") ∷ []) (codes "\n")
    ∷ entry (codes "inproceedings") (codes "c3") (title (codes "Three") ∷ cites (codes "p") ∷ []) (codes "\n")
    ∷ entry (codes "proceedings") (codes "p") (title (codes "Proc") ∷ spaced (codes "booktitle") (only (Braced (codes "Proc"))) ∷ spaced (codes "year") (only (Digits (codes "2001"))) ∷ []) (codes "\n")
    ∷ [])

-- a cited list: two entries, a key that no entry has, and the first entry again in the other case
abbrev pub citations : List Text
citations = codes "c1" ∷ codes "zz" ∷ codes "c2" ∷ codes "C1" ∷ []

-- a parent is listed once enough of its children are, and a child inherits the fields that it lacks
pub record ParentIsCitedWithChildren : Type 0 where
  pub with_parent : listed (entries_of conference) citations 2 ≡ 0 ∷ 1 ∷ 3 ∷ []
  pub without_parent : listed (entries_of conference) citations 3 ≡ 0 ∷ 1 ∷ []
  pub unknown_keys : unknown (entries_of conference) citations ≡ 1 ∷ []
  pub fields : fields_of 1 conference 0 ≡ (codes "title", codes "One") ∷ (codes "booktitle", codes "Proc") ∷ (codes "year", codes "2001") ∷ []
  pub removed : Refuses author_year Referred conference (RemoveEntry (codes "p"))

-- four entries: one whose crossref is its own key, one without a crossref, one with a parent, one that dangles
abbrev pub crossing : Reading
crossing = file (
    misc (codes "a") (cites (codes "a") ∷ []) ∷ misc (codes "b") [] ∷ misc (codes "c") (cites (codes "B") ∷ []) ∷ misc (codes "d") (cites (codes "q") ∷ []) ∷ [])

-- a crossref may name its own entry, which then is no parent, or no entry at all
pub record CrossrefsFindTargets : Type 0 where
  pub bytes : bytes_of crossing ≡ codes "@misc{a, crossref = {a}}@misc{b}@misc{c, crossref = {B}}@misc{d, crossref = {q}}"
  pub targets : map (target (entries_of crossing)) (0 ∷ 1 ∷ 2 ∷ 3 ∷ []) ≡ Some 0 ∷ None ∷ Some 1 ∷ None ∷ []
  pub parents : map (parent (entries_of crossing)) (0 ∷ 1 ∷ 2 ∷ 3 ∷ []) ≡ None ∷ None ∷ Some 1 ∷ None ∷ []
  pub crossrefs : map crossref_text (entries_of crossing) ≡ Some (codes "a") ∷ None ∷ Some (codes "B") ∷ Some (codes "q") ∷ []
  pub dangling : dangling_texts (entries_of crossing) ≡ codes "q" ∷ []
  pub own : fields_of 1 crossing 0 ≡ []
  pub all : listed (entries_of crossing) (codes "*" ∷ []) 1 ≡ 0 ∷ 1 ∷ 2 ∷ 3 ∷ []

-- a crossref that joins a macro's text and `95`
abbrev pub named_by_macro : Reading
named_by_macro = file (
    string (codes "conf") (only (Braced (codes "conf"))) ∷ misc (codes "conf95") []
    ∷ misc (codes "b") (spaced (codes "crossref") (both (Macro (codes "conf")) (Braced (codes "95"))) ∷ []) ∷ [])

-- a crossref's text is the joined text of its parts, and renaming its target replaces them all
pub record CrossrefOfPartsIsRenamed : Type 0 where
  pub bytes : bytes_of named_by_macro ≡ codes "@string{conf={conf}}@misc{conf95}@misc{b, crossref = conf # {95}}"
  pub renamed : file_after named_by_macro (RenameKey (codes "conf95") (codes "icc")) ≡ codes "@string{conf={conf}}@misc{icc}@misc{b, crossref = {icc}}"
  pub parent : parent (entries_of (edited author_year named_by_macro (RenameKey (codes "conf95") (codes "icc")))) 1 ≡ Some 0
  pub macro_renamed : file_after named_by_macro (RenameMacro (codes "conf") (codes "c")) ≡ codes "@string{c={conf}}@misc{conf95}@misc{b, crossref = c # {95}}"

-- three entries that are each other's parents in a ring
abbrev pub ring : Reading
ring = file (
    misc (codes "c") (tight (codes "crossref") (only (Braced (codes "b"))) ∷ [])
    ∷ misc (codes "b") (tight (codes "x") (only (Digits (codes "1"))) ∷ tight (codes "crossref") (only (Braced (codes "a"))) ∷ [])
    ∷ misc (codes "a") (tight (codes "x") (only (Digits (codes "2"))) ∷ tight (codes "y") (only (Digits (codes "3"))) ∷ tight (codes "crossref") (only (Braced (codes "c"))) ∷ [])
    ∷ [])

-- a record inherits from its parents in turn, nearest first; a ring ends the chain
pub record RecordInheritsAlongChain : Type 0 where
  pub bytes : bytes_of ring ≡ codes "@misc{c,crossref={b}}@misc{b,x=1,crossref={a}}@misc{a,x=2,y=3,crossref={c}}"
  pub one : fields_of 1 ring 0 ≡ (codes "x", codes "1") ∷ []
  pub two : fields_of 2 ring 0 ≡ (codes "x", codes "1") ∷ (codes "y", codes "3") ∷ []
  pub eight : fields_of 8 ring 0 ≡ (codes "x", codes "1") ∷ (codes "y", codes "3") ∷ []
  pub last : fields_of 8 ring 2 ≡ (codes "x", codes "2") ∷ (codes "y", codes "3") ∷ []

-- ---- made keys

-- rows for this author and this year, with more rows after them
abbrev pub written : Text → Text → List Row → List Row
written author year more = spaced (codes "author") (only (Braced author)) ∷ spaced (codes "year") (only (Digits year)) ∷ more

-- two entries, each with the key that would be made for the other
abbrev pub swapped : Reading
swapped = file (
    entry (codes "misc") (codes "Lam86") (written (codes "Donald E. Knuth") (codes "1984") []) (codes "\n")
    ∷ entry (codes "misc") (codes "Knu84") (written (codes "Leslie Lamport") (codes "1986") (cites (codes "lam86") ∷ [])) (codes "\n") ∷ [])

-- all keys change at once, so two entries can exchange keys
pub record MadeKeysSwap : Type 0 where
  pub bytes : bytes_of swapped ≡ codes "@misc{Lam86, author = {Donald E. Knuth}, year = 1984}\n@misc{Knu84, author = {Leslie Lamport}, year = 1986, crossref = {lam86}}\n"
  pub made : file_after swapped (RegenerateKeys 1) ≡ codes "@misc{Knu84, author = {Donald E. Knuth}, year = 1984}\n@misc{Lam86, author = {Leslie Lamport}, year = 1986, crossref = {Knu84}}\n"
  pub places : map (λ p. p.place) (pieces swapped (RegenerateKeys 1)) ≡ 6 ∷ 60 ∷ 118 ∷ []
  pub again : file_after (edited author_year swapped (RegenerateKeys 1)) (RegenerateKeys 1) ≡ file_after swapped (RegenerateKeys 1)
  pub parent : parent (entries_of (edited author_year swapped (RegenerateKeys 1))) 1 ≡ Some 0

-- two entries with the same base for their keys, and a dangling crossref that names one of the candidates
abbrev pub years : Reading
years = file (
    misc [] (tight (codes "year") (only (Digits (codes "1999"))) ∷ [])
    ∷ misc (codes "x") (tight (codes "year") (only (Digits (codes "1999"))) ∷ [])
    ∷ misc (codes "c") (tight (codes "year") (only (Digits (codes "2000"))) ∷ tight (codes "crossref") (only (Braced (codes "anon99A"))) ∷ [])
    ∷ [])

-- a made key differs from all keys made before it and from the texts of dangling crossrefs
pub record MadeKeysDiffer : Type 0 where
  pub bytes : bytes_of years ≡ codes "@misc{,year=1999}@misc{x,year=1999}@misc{c,year=2000,crossref={anon99A}}"
  pub made : file_after years (RegenerateKeys 1) ≡ codes "@misc{anon99,year=1999}@misc{anon99b,year=1999}@misc{anon00,year=2000,crossref={anon99A}}"
  pub free : free_key (keys_of (entries_of years) ++ dangling_texts (entries_of years)) (codes "x") ≡ codes "xa"

-- a chain of two parents, where only the last entry has a year
abbrev pub chain : Reading
chain = file (
    misc (codes "p") (tight (codes "crossref") (only (Braced (codes "q"))) ∷ [])
    ∷ misc (codes "q") (tight (codes "crossref") (only (Braced (codes "r"))) ∷ [])
    ∷ misc (codes "r") (tight (codes "year") (only (Digits (codes "1999"))) ∷ []) ∷ [])

-- the base of a made key comes from the record at the requested depth
pub record MadeKeysReadTheChain : Type 0 where
  pub bytes : bytes_of chain ≡ codes "@misc{p,crossref={q}}@misc{q,crossref={r}}@misc{r,year=1999}"
  pub one : keys_of (entries_of (edited author_year chain (RegenerateKeys 1))) ≡ codes "anon" ∷ codes "anon99" ∷ codes "anon99a" ∷ []
  pub two : file_after chain (RegenerateKeys 2) ≡ codes "@misc{anon99,crossref={anon99a}}@misc{anon99a,crossref={anon99b}}@misc{anon99b,year=1999}"

-- ---- what would go wrong without a condition

-- an entry, and another whose crossref `Z` dangles
abbrev pub waiting : Reading
waiting = file (misc (codes "a") [] ∷ misc (codes "b") (cites (codes "Z") ∷ []) ∷ [])

-- `@misc{z}`, to be added
abbrev pub z : NewEntry
z = record { kind_name = codes "misc"; key = codes "z"; fields = [] }

-- An entry gets a parent once its dangling crossref finds one. So renaming a key to that text is refused, and the law about
-- an added entry excepts this case.
pub record DanglingCrossrefFindsKey : Type 0 where
  pub bytes : bytes_of waiting ≡ codes "@misc{a}@misc{b, crossref = {Z}}"
  pub before : parent (entries_of waiting) 1 ≡ None
  pub refused : Refuses author_year KeyInUse waiting (RenameKey (codes "a") (codes "z"))
  pub after : parent (entries_of (edited author_year waiting (RenameKey (codes "a") (codes "z")))) 1 ≡ Some 0
  pub added : parent (entries_of (edited author_year waiting (AddEntry 0 z))) 2 ≡ Some 0

-- three entries; the crossref of the third names the second
abbrev pub three : Reading
three = file (misc (codes "a") [] ∷ misc (codes "b") [] ∷ misc (codes "c") (cites (codes "b") ∷ []) ∷ [])

-- an entry that got another entry's key would take that entry's children
pub record KeyInUseTakesChildren : Type 0 where
  pub bytes : bytes_of three ≡ codes "@misc{a}@misc{b}@misc{c, crossref = {b}}"
  pub before : parent (entries_of three) 2 ≡ Some 1
  pub refused : Refuses author_year KeyInUse three (RenameKey (codes "a") (codes "B"))
  pub after : parent (entries_of (edited author_year three (RenameKey (codes "a") (codes "B")))) 2 ≡ Some 0

-- no crossref can name a key with two spaces in a row, since a field text has one space for each run of white space
pub record SpacedKeyLosesChildren : Type 0 where
  pub refused : Refuses author_year BadKey three (RenameKey (codes "b") (codes "x  y"))
  pub after : parent (entries_of (edited author_year three (RenameKey (codes "b") (codes "x  y")))) 2 ≡ None

-- two entries with one key, and a child of the first
abbrev pub repeated : Reading
repeated = file (misc (codes "a") [] ∷ misc (codes "A") [] ∷ misc (codes "b") (cites (codes "a") ∷ []) ∷ [])

-- without the first entry of a key, its children would belong to the second
pub record RepeatedKeyTakesChildren : Type 0 where
  pub bytes : bytes_of repeated ≡ codes "@misc{a}@misc{A}@misc{b, crossref = {a}}"
  pub before : parent (entries_of repeated) 2 ≡ Some 0
  pub refused : Refuses author_year Ambiguous repeated (RemoveEntry (codes "a"))
  pub after : parent (entries_of (edited author_year repeated (RemoveEntry (codes "a")))) 1 ≡ Some 0

-- a parent with one field, and its child
abbrev pub family : Reading
family = file (misc (codes "a") (tight (codes "t") (only (Digits (codes "1"))) ∷ []) ∷ misc (codes "b") (cites (codes "a") ∷ []) ∷ [])

-- an entry whose parent is removed would lose what it inherits
pub record RemovedParentLeavesChildren : Type 0 where
  pub bytes : bytes_of family ≡ codes "@misc{a,t=1}@misc{b, crossref = {a}}"
  pub before : fields_of 1 family 1 ≡ (codes "t", codes "1") ∷ []
  pub refused : Refuses author_year Referred family (RemoveEntry (codes "a"))
  pub after : fields_of 1 (edited author_year family (RemoveEntry (codes "a"))) 0 ≡ []

-- `@misc{A}`, to be added
abbrev pub capital_a : NewEntry
capital_a = record { kind_name = codes "misc"; key = codes "A"; fields = [] }

-- an entry added before another entry with its key would take that entry's children
pub record AddedKeyTakesChildren : Type 0 where
  pub before : parent (entries_of family) 1 ≡ Some 0
  pub refused : Refuses author_year KeyInUse family (AddEntry 0 capital_a)
  pub after : parent (entries_of (edited author_year family (AddEntry 0 capital_a))) 2 ≡ Some 0
  pub after_fields : fields_of 1 (edited author_year family (AddEntry 0 capital_a)) 2 ≡ []

-- a position that is too high cannot be reached: no item would be there afterwards
pub record HighPlaceIsNotReached : Type 0 where
  pub refused : Refuses author_year BadPosition two_lines (MoveEntry (codes "a") 2)
  pub after : slice_get (edited author_year two_lines (MoveEntry (codes "a") 2)).items 2 ≡ None

-- a base that reads the entry's key
abbrev pub key_and_a : Record → Text
key_and_a r = r.key ++ codes "a"

-- a base that is no key, since it has spaces
abbrev pub two_words : Record → Text
two_words r = codes "x  y"

-- a base that is one of made keys
abbrev pub one_word : Record → Text
one_word r = codes "x"

-- `@misc{k}`
abbrev pub one_key : Reading
one_key = file (misc (codes "k") [] ∷ [])

-- if the base reads the key, made keys change again each time; if it is no key, crossrefs to the made key find nothing
pub record KeyBaseIsNeeded : Type 0 where
  pub once : bytes_of (edited key_and_a one_key (RegenerateKeys 1)) ≡ codes "@misc{ka}"
  pub again : bytes_of (edited key_and_a (edited key_and_a one_key (RegenerateKeys 1)) (RegenerateKeys 1)) ≡ codes "@misc{kaa}"
  pub before : parent (entries_of family) 1 ≡ Some 0
  pub after : parent (entries_of (edited two_words family (RegenerateKeys 1))) 1 ≡ None
  pub is_there : IsKeyBase one_word

-- a macro that is not used, and a use of an undefined name
abbrev pub undefined_use : Reading
undefined_use = file (string (codes "m") (only (Braced (codes "1"))) ∷ misc (codes "k") (tight (codes "t") (only (Macro (codes "n"))) ∷ []) ∷ [])

-- a text, and beside it a use of an undefined name
abbrev pub use_beside_text : Reading
use_beside_text = file (misc (codes "k") (tight (codes "t") (only (Braced (codes "x"))) ∷ tight (codes "u") (only (Macro (codes "m"))) ∷ []) ∷ [])

-- a use that gave nothing would give a text once its name stands for one
pub record NameInUseGivesText : Type 0 where
  pub bytes : bytes_of undefined_use ≡ codes "@string{m={1}}@misc{k,t=n}"
  pub before : texts_at 1 undefined_use 0 ≡ [] ∷ []
  pub refused : Refuses author_year NameInUse undefined_use (RenameMacro (codes "m") (codes "n"))
  pub after : texts_at 1 (edited author_year undefined_use (RenameMacro (codes "m") (codes "n"))) 0 ≡ codes "1" ∷ []
  pub beside : bytes_of use_beside_text ≡ codes "@misc{k,t={x},u=m}"
  pub beside_refused : Refuses author_year NameInUse use_beside_text (IntroduceMacro (codes "m") (codes "x"))
  pub beside_after : texts_at 1 (edited author_year use_beside_text (IntroduceMacro (codes "m") (codes "x"))) 0 ≡ codes "x" ∷ codes "x" ∷ []

-- the macro `m` is defined twice, with a use after each definition
abbrev pub inlined_twice : Reading
inlined_twice = file (
    string (codes "m") (only (Braced (codes "1"))) ∷ misc (codes "j") (tight (codes "t") (only (Macro (codes "m"))) ∷ [])
    ∷ string (codes "m") (only (Braced (codes "2"))) ∷ misc (codes "k") (tight (codes "t") (only (Macro (codes "m"))) ∷ []) ∷ [])

-- a macro that is defined twice does not have one text for all its uses
pub record MacroDefinedTwiceHasTwoTexts : Type 0 where
  pub bytes : bytes_of inlined_twice ≡ codes "@string{m={1}}@misc{j,t=m}@string{m={2}}@misc{k,t=m}"
  pub before : texts_at 1 inlined_twice 0 ≡ codes "1" ∷ []
  pub refused : Refuses author_year Ambiguous inlined_twice (InlineMacro (codes "m"))
  pub after : texts_at 1 (edited author_year inlined_twice (InlineMacro (codes "m"))) 0 ≡ codes "2" ∷ []

-- A key may be `*`, and a list of that key alone cites all entries. So the law of cited lists excepts that list.
pub record StarCitesAll : Type 0 where
  pub before : listed (entries_of three) (codes "b" ∷ []) 1 ≡ 1 ∷ []
  pub after : listed (entries_of (edited author_year three (RenameKey (codes "b") (codes "*")))) (codes "*" ∷ []) 1 ≡ 0 ∷ 1 ∷ 2 ∷ []

-- ---- edits that are accepted

-- The laws are about accepted edits: here is one of each kind, and two of `RenameMacro`.
pub record EditsAreAccepted : Type 0 where
  pub set : IsAccepted author_year one_field (SetField (codes "a") (codes "y") (only (Digits (codes "2"))))
  pub dropped : IsAccepted author_year one_field (DropField (codes "a") (codes "T"))
  pub added : IsAccepted author_year waiting (AddEntry 0 z)
  pub removed : IsAccepted author_year waiting (RemoveEntry (codes "a"))
  pub moved : IsAccepted author_year two_lines (MoveEntry (codes "a") 1)
  pub key_renamed : IsAccepted author_year named_by_macro (RenameKey (codes "conf95") (codes "icc"))
  pub macro_renamed : IsAccepted author_year overridden_month (RenameMacro (codes "jan") (codes "j"))
  pub macro_respelled : IsAccepted author_year overridden_month (RenameMacro (codes "jan") (codes "JAN"))
  pub macro_inlined : IsAccepted author_year quoting (InlineMacro (codes "m"))
  pub macro_introduced : IsAccepted author_year same_text_twice (IntroduceMacro (codes "m") (codes "x"))
  pub keys_made : IsAccepted author_year swapped (RegenerateKeys 1)
  pub many_added : IsAccepted author_year family (AddMany (z ∷ []))
  pub macro_defined : IsAccepted author_year one_field (DefineMacro (codes "m") (only (Digits (codes "2"))))
  pub macro_set : IsAccepted author_year with_remark (SetMacro (codes "a") (only (Digits (codes "2"))))
  pub type_set : IsAccepted author_year one_field (SetType (codes "a") (codes "book"))
  pub macro_undefined : IsAccepted author_year undefined_use (UndefineMacro (codes "m"))
  pub field_renamed : IsAccepted author_year one_field (RenameField (codes "t") (codes "u") None)
  pub one_entry_changed : IsAccepted author_year one_field (ChangeEntry (record { name = codes "a"; number = Some 0 }) (SetsType (codes "book")))
  pub one_definition_changed : IsAccepted author_year inlined_twice (ChangeDefinition (codes "m") 1 (SetsValue (only (Digits (codes "2")))))
