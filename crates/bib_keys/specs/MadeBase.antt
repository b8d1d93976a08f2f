-- What a made key begins with.
use Rattle.bib_spec.specs.Text.{Text}
use Rattle.bib_spec.specs.Records.{Record}
use Rattle.bib_names.specs.Label.{key_base}

-- the base of a record's made key, from the base of its label
abbrev pub made_base : Record → Text
made_base r = key_base r.fields
