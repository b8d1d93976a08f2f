-- One edit by its words, as a step that has them for its label. (dialect)
use Rattle.std.specs.Prelude.{ℕ, zero, suc, ◌&&◌, nat_le, nat_lt, if◌then◌else◌, Bool, List, [], ◌∷◌, ◌++◌, map, take, slice_index_or, Option, option_map}
use Rattle.std.specs.List.{flat_map}
use Rattle.bib_spec.specs.Bytes.{space}
use Rattle.bib_spec.specs.Text.{Text}
use Rattle.history_spec.specs.Steps.{label_limit, is_label_byte}
use Rattle.bib_data.specs.declared.request.Request.{Request}
use Rattle.bib_data.specs.declared.request.Request.TheVariants as request
use Rattle.bib_script.specs.Script.{edit_asked}

-- ---- the label

-- the words with a space between each two
abbrev pub spaced : List Text → Text
spaced [] = []
spaced (word ∷ words) = word ++ flat_map (λ next. space ∷ next) words

-- a byte that continues a character of UTF-8
abbrev pub continues : ℕ → Bool
continues b = nat_le 128 b && nat_lt b 192

-- the greatest length, up to `most`, to which a text can be shortened without cutting a character
unfoldable pub kept_len : ℕ → Text → ℕ
kept_len zero text = zero
kept_len (suc most) text = if continues (slice_index_or text (suc most) 0) then kept_len most text else suc most

-- a byte as a label shows it: a control byte of ASCII becomes a space
abbrev pub shown_byte : ℕ → ℕ
shown_byte b = if is_label_byte b then b else space

-- the words as a label: with a space between each two and in the place of each control byte, and no longer than a label can be
abbrev pub label_of_words : List Text → Text
label_of_words words = map shown_byte (take (kept_len label_limit (spaced words)) (spaced words))

-- ---- what the words ask for

-- a step of the one edit that is asked for, with this label
abbrev pub step_of : Text → Request → List Request
step_of label edit = request.Begin label ∷ edit ∷ request.End ∷ []

-- what the words ask for, if they say an edit: a step of that edit, labelled by them
abbrev pub asked_by_words : List Text → Option (List Request)
asked_by_words words = option_map (step_of (label_of_words words)) (edit_asked words)
