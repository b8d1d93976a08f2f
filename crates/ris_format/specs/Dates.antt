-- Dates: `year/MM//`, where MM is the month as a number of two digits. (dialect)
use Rattle.std.specs.Prelude.{ℕ, Bool, not, ◌&&◌, ◌||◌, ◌==◌, List, [], ◌∷◌, ◌++◌, take, drop, codes, find, Option, option_map, if◌then◌else◌}
use Rattle.std.specs.List.{list_any, take_while}
use Rattle.std.specs.Option.{option_map_or}
use Rattle.std.specs.Str.{bytes_eq}
use Rattle.std.specs.Borrow.{Bor}
use Rattle.bib_spec.specs.Text.{Text, same, after_run}
use Rattle.bib_spec.specs.Texts.{is_empty}
use Rattle.bib_text.specs.Trimming.{trimmed}

-- a month's name, and its number with two digits
pub record Month : Type 0 where
  pub name : Text
  pub digits : Text

-- the month with this name and this number
abbrev pub month : Text → Text → Month
month name digits = record { name = name; digits = digits }

-- the twelve months, in order
abbrev pub months : List Month
months =
    month (codes "January") (codes "01") ∷ month (codes "February") (codes "02") ∷ month (codes "March") (codes "03")
    ∷ month (codes "April") (codes "04") ∷ month (codes "May") (codes "05") ∷ month (codes "June") (codes "06")
    ∷ month (codes "July") (codes "07") ∷ month (codes "August") (codes "08") ∷ month (codes "September") (codes "09")
    ∷ month (codes "October") (codes "10") ∷ month (codes "November") (codes "11") ∷ month (codes "December") (codes "12") ∷ []

-- a month as the code keeps it
abbrev pub shown : Bor Text × Bor Text → Month
shown m = month m.0.now m.1.now

-- the slash between the parts of a date
abbrev pub slash : ℕ
slash = 47

-- the byte is a slash
abbrev pub is_slash : ℕ → Bool
is_slash byte = byte == slash

-- the text has a slash
abbrev pub has_slash : Text → Bool
has_slash text = list_any is_slash text

-- ---- writing

-- the text is the month's name or its first three letters, in any case
abbrev pub names_month : Text → Month → Bool
names_month text m = same m.name text || same (take 3 m.name) text

-- the number of the first of these months that the text names
abbrev pub digits_among : List Month → Text → Option Text
digits_among ms text = option_map (λ m. m.digits) (find (names_month text) ms)

-- the number of the month that the text names, none if it names no month
abbrev pub month_digits : Text → Option Text
month_digits text = digits_among months text

-- the year as it is written: empty if it has a slash, since a date cannot carry it
abbrev pub written_year : Text → Text
written_year year = if has_slash year then [] else year

-- the month as it is written: its number, empty if the text names no month
abbrev pub written_month : Text → Text
written_month text = option_map_or (λ digits. digits) (month_digits text) []

-- the value of a date line: `year/MM//`
abbrev pub date_value : Text → Text → Text
date_value year digits = year ++ (codes "/" ++ (digits ++ codes "//"))

-- the value of the date line, if there is a year or a month
abbrev pub date_values : Text → Text → List Text
date_values year digits = if is_empty year && is_empty digits then [] else date_value year digits ∷ []

-- the value of the date line for the fields `year` and `month`, if either can be written
abbrev pub written_date : Text → Text → List Text
written_date year text = date_values (written_year year) (written_month text)

-- ---- reading

-- the byte is no slash
abbrev pub is_no_slash : ℕ → Bool
is_no_slash byte = not (is_slash byte)

-- the text before the first slash, or all of it if there is none
abbrev pub before_slash : Text → Text
before_slash text = take_while is_no_slash text

-- the text after the first slash, empty if there is none
abbrev pub after_slash : Text → Text
after_slash text = drop 1 (after_run is_no_slash text)

-- the year of a date: its first piece, without white space at its ends
abbrev pub read_year : Text → Text
read_year value = trimmed (before_slash value)

-- the byte is the digit 0
abbrev pub is_zero_digit : ℕ → Bool
is_zero_digit byte = byte == 48

-- the digits without zeros at the front
abbrev pub plain_number : Text → Text
plain_number digits = after_run is_zero_digit digits

-- the decimal number, with or without zeros at its front, is the number of the month
abbrev pub numbers_month : Text → Month → Bool
numbers_month digits m = bytes_eq (plain_number digits) (plain_number m.digits)

-- the name of the first of these months with this number
abbrev pub named_among : List Month → Text → Text
named_among ms digits = option_map_or (λ m. m.name) (find (numbers_month digits) ms) []

-- the name of a date's month, empty if the second piece of the date is no number from 1 to 12
abbrev pub read_month : Text → Text
read_month value = named_among months (trimmed (before_slash (after_slash value)))

-- ---- the profile

-- the text is the name of one of these months
abbrev pub is_named_among : List Month → Text → Bool
is_named_among ms text = list_any (λ m. bytes_eq m.name text) ms

-- the text is the name of a month, as reading gives it
abbrev pub is_plain_month : Text → Bool
is_plain_month text = is_named_among months text
