-- The place that decides a word's case.
use Rattle.bib_names.proofs.Words.{◌≡◌, ℕ, ◌+◌, ◌-◌, ◌<◌, true, false, cond, length, get_or, sym, ap, ◌∙◌, range_with_len, slice_range, find, option_map_or, or-true, Text, begins_special, next_level, IsSpecial}
use Rattle.std.specs.Prelude.{◌||◌}
use Rattle.std.specs.Char.{is_ascii_lowercase}
use Rattle.bib_names.specs.Case.{decides, is_outer_letter}
use Rattle.bibtex_names.specs.Case.{is_lower_at, is_lower_special, is_lower}
use Rattle.bib_names.proofs.SpecialLemmas.{find_here, find_past}

-- no place before this one decides
abbrev pub NoneDecides : Text → ℕ → Type 0
NoneDecides word place = find (decides word) (range_with_len 0 (length word)) ≡ find (decides word) (range_with_len place (length word - place))

lower_here : (word : Text) (place : ℕ) → place < length word → NoneDecides word place → decides word place ≡ true → is_lower_at word place ≡ is_lower word
lower_here word place lt far here =
    sym (ap (λ o. option_map_or (is_lower_at word) o false) (far ∙ find_here (decides word) place (length word) lt here))

pub lower_special : (word : Text) (place end : ℕ) → place < length word → NoneDecides word place → IsSpecial word place end → is_lower_special (slice_range word (place + 2) (end - 1)) ≡ is_lower word
lower_special word place end lt far special =
    let here : decides word place ≡ true = ap (λ b. is_outer_letter word place || b) special.begins ∙ or-true (is_outer_letter word place) in
    ap (λ e. is_lower_special (slice_range word (place + 2) (e - 1))) special.ends.is
    ∙ sym (ap (λ b. cond b (is_lower_special (slice_range word (place + 2) (next_level word place - 1))) (is_ascii_lowercase (get_or word place 0))) special.begins)
    ∙ lower_here word place lt far here

pub lower_letter : (word : Text) (place : ℕ) → place < length word → NoneDecides word place → begins_special word place ≡ false → is_outer_letter word place ≡ true → is_ascii_lowercase (get_or word place 0) ≡ is_lower word
lower_letter word place lt far special letter =
    let here : decides word place ≡ true = ap (λ b. b || begins_special word place) letter in
    sym (ap (λ b. cond b (is_lower_special (slice_range word (place + 2) (next_level word place - 1))) (is_ascii_lowercase (get_or word place 0))) special)
    ∙ lower_here word place lt far here

pub decides_on : (word : Text) (place : ℕ) → place < length word → NoneDecides word place → begins_special word place ≡ false → is_outer_letter word place ≡ false → NoneDecides word (place + 1)
decides_on word place lt far special letter =
    let fails : decides word place ≡ false = ap (λ b. b || begins_special word place) letter ∙ special in
    far ∙ find_past (decides word) place (length word) lt fails
