-- Seeking the fields of one name, one field after another.
use Rattle.bib_edit.proofs.Words.{◌≡◌, ℕ, ◌+◌, ◌||◌, nat_lt, Bool, List, Option, None, Some, count_by, find, last_or, option_or, Text, Field, is_field}

-- the count of fields with the name, with this one
abbrev pub count_with : Option Field → ℕ → ℕ
count_with None n = n
count_with (Some field) n = 1 + n

-- so far this is the first field of the name, another was met or not, and this the last field; these are left
pub record IsSeeking (name : Text) (all : List Field) (first : Option Field) (repeated : Bool) (last : Option Field) (rest : List Field) : Type 0 where
  pub first_is : option_or first (find (is_field name) rest) ≡ find (is_field name) all
  pub repeated_is : (repeated || nat_lt 1 (count_with first (count_by (is_field name) rest))) ≡ nat_lt 1 (count_by (is_field name) all)
  pub last_is : last_or last rest ≡ last_or None all
