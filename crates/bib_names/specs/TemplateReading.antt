-- What the private functions read of a template from left to right. The laws in proofs/ lead from there to its grammar.
use Rattle.std.specs.Prelude.{ℕ, ◌==◌, [], ◌∷◌, Option, None, Some, option_map, option_and_then, if◌then◌else◌}
use Rattle.std.specs.List.{take_while}
use Rattle.bib_spec.specs.Bytes.{open_brace, close_brace}
use Rattle.bib_spec.specs.Text.{Text, after_run}
use Rattle.bib_names.specs.Template.{is_no_brace, is_ornament}
use Rattle.bib_names.specs.declared.template.Part.{Part}
use Rattle.bib_names.specs.declared.template.Part.TheVariants.{First, Von, Last, Jr}
use Rattle.bib_names.specs.declared.template.Form.{Form}
use Rattle.bib_names.specs.declared.template.Form.TheVariants.{Initials, Words}
use Rattle.bib_names.specs.declared.template.Group.{Group}

-- the text after this byte
abbrev pub after_byte : ℕ → Text → Option Text
after_byte byte [] = None
after_byte byte (first ∷ rest) = if first == byte then Some rest else None

-- the part that a letter names
abbrev pub part_named : ℕ → Option Part
part_named letter =
    if letter == 102 then Some First
    else if letter == 118 then Some Von
    else if letter == 108 then Some Last
    else if letter == 106 then Some Jr
    else None

-- the form of a part whose letter is before the text: words if the same letter follows, else initials; and the text after it
abbrev pub form_at : Part → ℕ → Text → Part × Form × Text
form_at part letter [] = (part, Initials, [])
form_at part letter (next ∷ after) = if next == letter then (part, Words, after) else (part, Initials, next ∷ after)

-- the part and the form that the letters at the front name, and the text after them; none if no letter names a part
abbrev pub letters_at : Text → Option (Part × Form × Text)
letters_at [] = None
letters_at (letter ∷ rest) = option_map (λ part. form_at part letter rest) (part_named letter)

-- the text between words and the text after it, if a brace closes it
abbrev pub between_inside : Text → Option (Option Text × Text)
between_inside inside =
    option_map (λ after. (Some (take_while is_no_brace inside), after)) (after_byte close_brace (after_run is_no_brace inside))

-- the text between words, if it is given, and the text after it; none if no brace closes it
abbrev pub between_at : Text → Option (Option Text × Text)
between_at [] = Some (None, [])
between_at (first ∷ rest) = if first == open_brace then between_inside rest else Some (None, first ∷ rest)

-- the group that has these parts, and the text after it; none if no brace closes it
abbrev pub group_closed : Text → Part → Form → Option Text → Text → Text → Option (Group × Text)
group_closed pre part form between post rest =
    option_map
    (λ after. (record { pre = pre; part = part; form = form; between = between; post = post; trail = take_while is_no_brace after }, after_run is_no_brace after))
    (after_byte close_brace rest)

-- the group, and the text after it, given the text before its letters, the letters, and the text between words with what follows
abbrev pub group_after_between : Text → Part × Form × Text → Option Text × Text → Option (Group × Text)
group_after_between pre letters between =
    group_closed pre letters.0 letters.1 between.0 (take_while is_ornament between.1) (after_run is_ornament between.1)

-- the group, and the text after it, given the text before its letters, and the letters with what follows
abbrev pub group_after_letters : Text → Part × Form × Text → Option (Group × Text)
group_after_letters pre letters = option_and_then (group_after_between pre letters) (between_at letters.2)

-- the group, and the text after it, given the text before its letters and what follows
abbrev pub group_after : Text → Text → Option (Group × Text)
group_after pre rest = option_and_then (group_after_letters pre) (letters_at rest)

-- the group whose opening brace is before the text, and the text after the group
abbrev pub group_at : Text → Option (Group × Text)
group_at inside = group_after (take_while is_ornament inside) (after_run is_ornament inside)
