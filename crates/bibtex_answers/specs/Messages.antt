-- What an answer says if BibTeX may read the file otherwise, or if it cannot be said what BibTeX lists.
use Rattle.std.specs.Prelude.{ℕ, codes}
use Rattle.bib_spec.specs.Text.{Text}
use Rattle.bib_answers.specs.Messages.{placed_line}

-- BibTeX may read other items than those of the file, because of the at-sign at this place (dialect)
abbrev pub not_plain_line : ℕ → Text
not_plain_line place = placed_line 14 (codes "NotPlain") place

-- an entry inherits from too many entries (dialect)
abbrev pub too_deep_line : Text
too_deep_line = codes "bibkeep: 15 TooDeep\n"
