-- How the bytes of a name are kept.
use Rattle.bib_spec.specs.Text.{Text}
use Rattle.folded_map.specs.declared.kept_name.Held.{Held}
use Rattle.folded_map.specs.declared.kept_name.Held.TheVariants.{Short, Long}

-- the bytes of a name, whether it is kept in place or in a box
abbrev pub bytes_of : Held → Text
bytes_of (Short t) = t
bytes_of (Long bytes) = bytes.value.items
