-- What a template prints of a name. The notation is that of `format.name$` (btxhak 5.4); ties, spaces and initials
-- follow rules of this project's own.
use Rattle.std.specs.Prelude.{ℕ, ◌-◌, ◌||◌, not, Bool, false, ◌==◌, nat_lt, nat_le, List, [], ◌∷◌, ◌++◌, length, take, slice_index, if◌then◌else◌}
use Rattle.std.specs.List.{flat_map, find}
use Rattle.std.specs.Option.{option_map_or}
use Rattle.std.specs.Char.{is_ascii_alphabetic}
use Rattle.bib_spec.specs.Bytes.{space, open_brace}
use Rattle.bib_spec.specs.Text.{Text}
use Rattle.bib_names.specs.Marks.{hyphen, period, tie}
use Rattle.bib_names.specs.Special.{text_chars}
use Rattle.bib_names.specs.Words.{NameWord}
use Rattle.bib_names.specs.declared.name.Name.{Name}
use Rattle.bib_names.specs.declared.template.Part.{Part}
use Rattle.bib_names.specs.declared.template.Part.TheVariants.{First, Von, Last, Jr}
use Rattle.bib_names.specs.declared.template.Form.{Form}
use Rattle.bib_names.specs.declared.template.Form.TheVariants.{Initials, Words}
use Rattle.bib_names.specs.declared.template.Group.{Group}
use Rattle.bib_names.specs.Template.{Pattern}

-- ---- initials

-- the text character gives an initial: a special character, a letter, or one from 0x80 on (dialect)
abbrev pub gives_initial : Text → Bool
gives_initial [] = false
gives_initial (byte ∷ rest) = byte == open_brace || is_ascii_alphabetic byte || nat_le 128 byte

-- the initial that it gives: a letter alone, else the whole character (dialect)
abbrev pub initial_in : Text → Text
initial_in char = if is_ascii_alphabetic (slice_index char 0) then take 1 char else char

-- the initial of the first of these characters that gives one; empty if none does
abbrev pub first_initial : List Text → Text
first_initial chars = option_map_or initial_in (find gives_initial chars) []

-- the initial of a word, from its text characters
abbrev pub initial : Text → Text
initial word = first_initial (text_chars word)

-- ---- words and what is between them

-- what is printed of a word: all of it, or its initial
abbrev pub shown : Form → Text → Text
shown Words word = word
shown Initials word = initial word

-- the period after an initial; nothing after a whole word, or if a word has no initial (dialect)
abbrev pub dot : Form → Text → Text
dot Words shown = []
dot Initials shown = if length shown == 0 then [] else period ∷ []

-- the text has fewer than three text characters
abbrev pub is_short : Text → Bool
is_short text = nat_lt (length (text_chars text)) 3

-- The byte between the output so far and the next word: the hyphen or tie before that word; else a tie if it is the
-- last of its part or the output is short; else a space. (dialect)
abbrev pub joint : Text → ℕ → Bool → ℕ
joint out sep is_last =
    if sep == hyphen || sep == tie then sep else if is_last || is_short out then tie else space

-- the output so far, its period, and then the byte before the next word, for which the period counts too (dialect)
abbrev pub tied : Form → Text → Text → ℕ → Bool → Text
tied form out shown sep is_last =
    let dotted = out ++ dot form shown in dotted ++ joint dotted sep is_last ∷ []

-- The output so far, which ends with a word or its initial, and what is printed between that word and the next: the text between
-- words if the template gives it (btxhak 5.4), else a period and one byte (dialect).
abbrev pub joined : Group → Text → Text → ℕ → Bool → Text
joined g out shown sep is_last = option_map_or (λ between. out ++ between) g.between (tied g.form out shown sep is_last)

-- the output so far and these words after it
abbrev pub printed_words : Group → Text → List NameWord → Text
printed_words g out [] = out
printed_words g out (word ∷ []) = out ++ shown g.form word.text
printed_words g out (word ∷ next ∷ more) =
    let text = shown g.form word.text in
    printed_words g (joined g (out ++ text) text next.sep (length more == 0)) (next ∷ more)

-- ---- groups

-- the output of a group: of two ties at its end one is dropped; a single tie becomes a space, unless the output is short (dialect)
abbrev pub finished : Text → Text
finished out =
    let front = take (length out - 1) out in
    if not (slice_index out (length out - 1) == tie) then out
    else if slice_index front (length front - 1) == tie then front
    else if is_short front then out
    else front ++ space ∷ []

-- what a group prints of the words of its part: nothing if the part has no word (btxhak 5.4)
abbrev pub printed_group : Group → List NameWord → Text
printed_group g [] = []
printed_group g (word ∷ more) = finished (printed_words g g.pre (word ∷ more) ++ g.post)

-- the words of one part of a name
abbrev pub part_of : Name → Part → List NameWord
part_of name First = name.first
part_of name Von = name.von
part_of name Last = name.last
part_of name Jr = name.jr

-- the print of a group, and the text after the group unchanged
abbrev pub printed_with_trail : Name → Group → Text
printed_with_trail name g = printed_group g (part_of name g.part) ++ g.trail

-- the print of a name
abbrev pub printed : Pattern → Name → Text
printed t name = t.front ++ flat_map (printed_with_trail name) t.groups
