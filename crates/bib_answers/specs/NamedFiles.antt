-- Files whose text was read as one, each with its name.
use Rattle.std.specs.Prelude.{List}
use Rattle.bib_spec.specs.Text.{Text}

-- their names, and their bytes
pub record NamedFiles : Type 0 where
  pub names : List Text
  pub files : List Text
