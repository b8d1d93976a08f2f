-- Values that agree.
use Rattle.std.specs.Prelude.{◌≡◌, Bool, true, false, ◌||◌, List, Option, None, Some, option_map, find, bytes_eq}
use Rattle.bib_spec.specs.Text.{Text}
use Rattle.bib_spec.specs.Tree.{Row, value_bytes}
use Rattle.bib_spec.specs.Texts.{Macros, raw_text, field_text}
use Rattle.bib_value.specs.Raw.{OfValue}
use Rattle.merge_spec.specs.ThreeWay.{alike, is_row}

-- the value of the field with this name
abbrev pub value_in : List Row → Text → Option Text
value_in rows name = option_map (λ row. value_bytes row.assignment.value) (find (is_row name) rows)

-- the two values are the same, byte for byte, or both are absent
abbrev pub same_bytes : Option Text → Option Text → Bool
same_bytes a b = alike bytes_eq a b

-- the answer is whether the two values have the same bytes or the same field text, each with its macros; or both are absent
abbrev pub agree : Macros → Option Text → Macros → Option Text → Bool → Type 0
agree ma (Some a) mb (Some b) same =
    OfValue a (λ v. OfValue b (λ w. same ≡ (bytes_eq a b || bytes_eq (field_text (raw_text ma v)) (field_text (raw_text mb w)))))
agree ma None mb None same = same ≡ true
agree ma None mb (Some b) same = same ≡ false
agree ma (Some a) mb None same = same ≡ false
