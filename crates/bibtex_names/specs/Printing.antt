-- What a template prints of a name.
use Rattle.std.specs.Prelude.{ℕ, ◌-◌, ◌||◌, not, Bool, false, ◌==◌, List, [], ◌∷◌, ◌++◌, Option, None, Some, length, take, drop, slice_index, if◌then◌else◌}
use Rattle.std.specs.Option.{option_map_or}
use Rattle.bib_spec.specs.Bytes.{space}
use Rattle.bib_spec.specs.Text.{Text}
use Rattle.bib_names.specs.Marks.{hyphen, period, tie}
use Rattle.bib_names.specs.Special.{is_opening}
use Rattle.bibtex_names.specs.Letters.{is_letter, group_len}
use Rattle.bibtex_names.specs.Words.{NameWord}
use Rattle.bibtex_names.specs.Counting.{three}
use Rattle.bibtex_names.specs.Template.{Pattern}
use Rattle.bibtex_names.specs.declared.counting.Count.{Count}
use Rattle.bibtex_names.specs.declared.name.Name.{Name}
use Rattle.bibtex_names.specs.declared.template.Part.{Part}
use Rattle.bibtex_names.specs.declared.template.Part.TheVariants.{First, Von, Last, Jr}
use Rattle.bibtex_names.specs.declared.template.Form.{Form}
use Rattle.bibtex_names.specs.declared.template.Form.TheVariants.{Initials, Words}
use Rattle.bibtex_names.specs.declared.template.Letters.{Letters}
use Rattle.bibtex_names.specs.declared.template.Group.{Group}

-- what has been printed, and whether the last count of characters stopped inside braces
pub record Printed : Type 0 where
  pub text : Text
  pub is_open : Bool

-- with this text after it
abbrev pub with_text : Printed → Text → Printed
with_text out text = record { text = out.text ++ text; is_open = out.is_open }

-- ---- words and what is between them

-- The initial of a word: the first letter, as one byte; or, if it comes first, a brace with a backslash, with all up to its closing
-- brace. Both may be inside of braces. Empty if there is neither. (bibtex.web 415, 416)
abbrev pub initial : Text → Text
initial [] = []
initial (byte ∷ rest) =
    if is_letter byte then byte ∷ []
    else if is_opening (byte ∷ rest) 0 then take (group_len (byte ∷ rest)) (byte ∷ rest)
    else initial rest

-- what is printed of a word: all of it, or its initial (bibtex.web 413)
abbrev pub shown : Form → Text → Text
shown Words word = word
shown Initials word = initial word

-- the period after an initial, even if the word has none; nothing after a whole word (bibtex.web 417)
abbrev pub dot : Form → Text
dot Words = []
dot Initials = period ∷ []

-- after a count of what a group has printed: a space if three characters are there, else a tie (bibtex.web 417)
abbrev pub with_counted : Text → Count → Printed
with_counted text count = record { text = text ++ (if count.is_enough then space else tie) ∷ []; is_open = count.is_open }

-- What a group has printed, with the byte before the next word: the hyphen or the tie before that word; else a tie if it is the last
-- of its part; else a space or a tie, for which characters are counted. (bibtex.web 417)
abbrev pub with_joint : Printed → ℕ → Bool → Printed
with_joint out sep is_last =
    if sep == hyphen || sep == tie then with_text out (sep ∷ [])
    else if is_last then with_text out (tie ∷ [])
    else with_counted out.text (three out.is_open out.text)

-- what a group has printed, with what is between a word and the next: the text between words if the template gives it, else a period
-- after an initial, and one byte (bibtex.web 417)
abbrev pub with_between : Letters → Printed → ℕ → Bool → Printed
with_between letters out sep is_last =
    option_map_or (with_text out) letters.between (with_joint (with_text out (dot letters.form)) sep is_last)

-- what a group has printed, with these words after it (bibtex.web 413)
abbrev pub with_words : Letters → Printed → List NameWord → Printed
with_words letters out [] = out
with_words letters out (word ∷ []) = with_text out (shown letters.form word.text)
with_words letters out (word ∷ next ∷ more) =
    with_words letters (with_between letters (with_text out (shown letters.form word.text)) next.sep (length more == 0)) (next ∷ more)

-- ---- groups

-- the words of one part of a name
abbrev pub part_of : Name → Part → List NameWord
part_of name First = name.first
part_of name Von = name.von
part_of name Last = name.last
part_of name Jr = name.jr

-- the text ends with a tie
abbrev pub ends_with_tie : Text → Bool
ends_with_tie text = slice_index text (length text - 1) == tie

-- the text without its last byte
abbrev pub but_last : Text → Text
but_last text = take (length text - 1) text

-- after a count of what is before a tie at the end: the tie becomes a space if three characters are there (bibtex.web 419)
abbrev pub tie_counted : Text → Count → Printed
tie_counted text count =
    record { text = if count.is_enough then but_last text ++ space ∷ [] else text; is_open = count.is_open }

-- All that has been printed, whose last group began after `start` bytes. Of two ties at the end one is dropped; a single tie becomes a
-- space if the group has three characters before it. The ties need not be the group's own. (bibtex.web 411, 419)
abbrev pub finished : ℕ → Printed → Printed
finished start out =
    if not (ends_with_tie out.text) then out
    else if ends_with_tie (but_last out.text) then record { text = but_last out.text; is_open = out.is_open }
    else tie_counted out.text (three out.is_open (drop start (but_last out.text)))

-- what a group prints of these words, before its end is looked at
abbrev pub group_text : Bool → Group → Letters → List NameWord → Printed
group_text is_open g letters words = with_text (with_words letters (record { text = g.pre; is_open = is_open }) words) g.post

-- all that has been printed, with this group after it
abbrev pub with_group_text : Printed → Printed → Printed
with_group_text out group =
    finished (length out.text) (record { text = out.text ++ group.text; is_open = group.is_open })

-- all that has been printed, with what a group prints of these words of its part: nothing if there is no word (bibtex.web 405, 411)
abbrev pub with_part : Printed → Group → Letters → List NameWord → Printed
with_part out g letters words =
    if length words == 0 then out else with_group_text out (group_text out.is_open g letters words)

-- all that has been printed, with a group: one without letters is always printed, one with letters if its part has a word
-- (bibtex.web 403, 411)
abbrev pub with_letters : Name → Printed → Group → Option Letters → Printed
with_letters name out g None = with_group_text out (record { text = g.pre; is_open = out.is_open })
with_letters name out g (Some letters) = with_part out g letters (part_of name letters.part)

-- all that has been printed, with a group and the text after it
abbrev pub with_group : Name → Printed → Group → Printed
with_group name out g = with_text (with_letters name out g g.letters) g.trail

-- all that has been printed, with these groups
abbrev pub with_groups : Name → Printed → List Group → Printed
with_groups name out [] = out
with_groups name out (g ∷ more) = with_groups name (with_group name out g) more

-- the print of a name (bibtex.web 402)
abbrev pub printed : Pattern → Name → Text
printed t name = (with_groups name (record { text = t.front; is_open = false }) t.groups).text
