-- Templates of `format.name$`.
use Rattle.std.specs.Prelude.{ℕ, ◌+◌, Bool, ◌&&◌, ◌==◌, List, [], ◌∷◌, take, drop, slice_index, map, Option, None, Some, option_map, if◌then◌else◌}
use Rattle.std.specs.List.{take_while}
use Rattle.std.specs.Char.{to_ascii_lowercase}
use Rattle.bib_spec.specs.Bytes.{open_brace}
use Rattle.bib_spec.specs.Text.{Text}
use Rattle.bib_names.specs.Places.{is_level, places}
use Rattle.bib_names.specs.Label.{balances}
use Rattle.bib_names.specs.Template.{is_no_brace}
use Rattle.bibtex_names.specs.Letters.{is_letter, begins_group, group_inside, after_group}
use Rattle.bibtex_names.specs.declared.template.Part.{Part}
use Rattle.bibtex_names.specs.declared.template.Part.TheVariants.{First, Von, Last, Jr}
use Rattle.bibtex_names.specs.declared.template.Form.{Form}
use Rattle.bibtex_names.specs.declared.template.Form.TheVariants.{Initials, Words}
use Rattle.bibtex_names.specs.declared.template.Group.{Group}

-- a template: the text before the first group, and groups, each with the text after it
pub record Pattern : Type 0 where
  pub front : Text
  pub groups : List Group

-- ---- the letters of a group

-- a letter of a group is at the place, outside of the groups in it (bibtex.web 403)
abbrev pub is_letter_at : Text → ℕ → Bool
is_letter_at inside place = is_level inside place && is_letter (slice_index inside place)

-- the part that a letter names, in either case: f, v, l or j (bibtex.web 405)
abbrev pub part_named : ℕ → Option Part
part_named letter =
    let small = to_ascii_lowercase letter in
    if small == 102 then Some First
    else if small == 118 then Some Von
    else if small == 108 then Some Last
    else if small == 106 then Some Jr
    else None

-- the letters at two places are one letter that is doubled, each in either case (bibtex.web 406 to 410)
abbrev pub is_doubled : Text → ℕ → ℕ → Bool
is_doubled inside one two =
    two == one + 1 && to_ascii_lowercase (slice_index inside one) == to_ascii_lowercase (slice_index inside two)

-- ---- groups

-- the text between words: a group directly after the letters, without its braces (bibtex.web 412)
abbrev pub between_in : Text → Option Text
between_in after = if begins_group after then Some (group_inside after) else None

-- the text after the text between words, if it is given
abbrev pub after_between : Text → Text
after_between after = if begins_group after then after_group after else after

-- the group whose letters stand from `at` up to `end`
abbrev pub lettered : Text → Text → ℕ → ℕ → Form → Part → Group
lettered inside trail at end form part = record {
  pre = take at inside;
  letters = Some (record { part = part; form = form; between = between_in (drop end inside) });
  post = after_between (drop end inside);
  trail = trail;
}

-- the group that has its letters at these places, and this text after it: no letter, or one that names a part, single or doubled
-- (bibtex.web 403, 405)
abbrev pub group_by : Text → Text → List ℕ → Option Group
group_by inside trail [] = Some (record { pre = inside; letters = None; post = []; trail = trail })
group_by inside trail (one ∷ []) =
    option_map (lettered inside trail one (one + 1) Initials) (part_named (slice_index inside one))
group_by inside trail (one ∷ two ∷ []) =
    if is_doubled inside one two then option_map (lettered inside trail one (one + 2) Words) (part_named (slice_index inside one)) else None
group_by inside trail (one ∷ two ∷ three ∷ more) = None

-- the group with this text in its braces, and this text after it
abbrev pub group_of : Text → Text → Option Group
group_of inside trail = group_by inside trail (places (is_letter_at inside) inside)

-- ---- templates

-- a group of the template begins at the place
abbrev pub begins_group_at : Text → ℕ → Bool
begins_group_at text place = is_level text place && slice_index text place == open_brace

-- the group at the front of a text, and the text after it up to the next brace
abbrev pub front_group : Text → Option Group
front_group text = group_of (group_inside text) (take_while is_no_brace (after_group text))

-- the members, if all are there
abbrev pub all_of : {X : Type 0} → List (Option X) → Option (List X)
all_of [] = Some []
all_of (None ∷ options) = None
all_of (Some x ∷ options) = option_map (λ xs. x ∷ xs) (all_of options)

-- the groups of a template, if each names at most one part
abbrev pub groups_of : Text → Option (List Group)
groups_of text = all_of (map (λ place. front_group (drop place text)) (places (begins_group_at text) text))

-- The template that a text spells: its braces balance, and each group outside of others names at most one part, once. Text outside
-- of groups is printed unchanged, and is any text. (bibtex.web 402, 403)
abbrev pub template_of : Text → Option Pattern
template_of text =
    if balances text then option_map (λ groups. record { front = take_while is_no_brace text; groups = groups }) (groups_of text)
    else None
