-- Names of persons that cannot be taken apart.
use Rattle.std.specs.Prelude.{ℕ, Bool, ◌&&◌, ◌||◌, ◌==◌, nat_lt, List, length, filter, codes}
use Rattle.bib_spec.specs.Bytes.{comma}
use Rattle.bib_spec.specs.Text.{Text, same}
use Rattle.bib_names.specs.Label.{balances, listed_names}
use Rattle.bib_names.specs.Name.{commas, without_end}

-- a field of this name has a list of names (btxdoc 3.2)
abbrev pub has_names : Text → Bool
has_names name = same name (codes "author") || same name (codes "editor")

-- the braces of the name balance, and it has more than two commas at depth 0, those at its end aside (btxhak 5.4)
abbrev pub has_many_commas : Text → Bool
has_many_commas name = balances name && nat_lt 2 (length (commas (without_end name)))

-- the names of a list that have too many commas, in order
abbrev pub refused_names : Text → List Text
refused_names text = filter has_many_commas (listed_names text)

-- the byte is a comma
abbrev pub is_comma_byte : ℕ → Bool
is_comma_byte b = b == comma
