-- What of a text is new where macros stand for this: all but the definitions that say so. (dialect)
use Rattle.std.specs.Prelude.{Bool, false, not, ◌&&◌, List, [], ◌∷◌, filter, bytes_eq, if◌then◌else◌, Option, Some, None}
use Rattle.std.specs.List.{list_all}
use Rattle.bib_spec.specs.Text.{Text, is_space, folded}
use Rattle.bib_spec.specs.Tree.{Part, Braced, Quoted, Digits, Macro, Value, Tree, CommentTree, DefinitionTree, PreambleTree, EntryTree}
use Rattle.bib_spec.specs.Reading.{Item, Reading, item_bytes}
use Rattle.bib_spec.specs.Texts.{Macros, parts_of}

-- the text of a part that is not a macro
abbrev pub own_text : Part → Option Text
own_text (Braced t) = Some t
own_text (Quoted t) = Some t
own_text (Digits t) = Some t
own_text (Macro name) = None

-- the text of a part that stands alone and is not a macro
abbrev pub text_alone : List Part → Option Text
text_alone [] = None
text_alone (part ∷ []) = own_text part
text_alone (part ∷ next ∷ parts) = None

-- the text of a value that is one text or number
abbrev pub lone_text : Value → Option Text
lone_text v = text_alone (parts_of v)

-- there are two texts, and they are the same
abbrev pub is_said : Option Text → Option Text → Bool
is_said (Some text) (Some said) = bytes_eq text said
is_said (Some text) None = false
is_said None said = false

-- the item defines a macro as what it stands for: its value is one text or number, and that is the macro's text
abbrev pub says_known : Macros → Tree → Bool
says_known macros (DefinitionTree d) = is_said (lone_text d.assignment.value) (macros (folded d.assignment.name))
says_known macros (CommentTree h) = false
says_known macros (PreambleTree p) = false
says_known macros (EntryTree e) = false

-- the item is known: it says what is said already, and only white space is behind it
abbrev pub is_known : Macros → Item → Bool
is_known macros item = says_known macros item.tree && list_all is_space item.trail

-- the text without what is known
abbrev pub news_of : Macros → Reading → Reading
news_of macros text = record text { items = filter (λ item. not (is_known macros item)) text.items }

-- the bytes of an item that is not known, and else none
abbrev pub bytes_unless_known : Macros → Item → Text
bytes_unless_known macros item = if is_known macros item then [] else item_bytes item
