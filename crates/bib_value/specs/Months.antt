-- The months, as the code keeps them: names with their texts.
use Rattle.std.specs.Prelude.{List, Option, find}
use Rattle.std.specs.Option.{option_map}
use Rattle.std.specs.Borrow.{Bor}
use Rattle.bib_spec.specs.Text.{Text, same}

-- a name and its text
abbrev pub shown : Bor Text × Bor Text → Text × Text
shown m = (m.0.now, m.1.now)

-- the text that belongs to the first of these names that is this one, folded
abbrev pub text_in : List (Text × Text) → Text → Option Text
text_in names name = option_map (λ m. m.1) (find (λ m. same m.0 name) names)
