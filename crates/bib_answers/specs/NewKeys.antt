-- `newkeys`: the keys that `regenerate` gives. (dialect)
use Rattle.std.specs.Prelude.{ℕ, List, [], ◌++◌, zip, codes}
use Rattle.std.specs.List.{flat_map}
use Rattle.bib_spec.specs.Text.{Text}
use Rattle.bib_spec.specs.Reading.{Reading}
use Rattle.bib_spec.specs.Records.{entries_of, keys_of}
use Rattle.bib_spec.specs.MadeKeys.{new_keys}
use Rattle.bib_keys.specs.MadeBase.{made_base}
use Rattle.bib_answers.specs.declared.answers.Answer.{Answer}
use Rattle.bib_answers.specs.Outcome.{answer_of}

-- an old key, a tab, and the new key, a line
abbrev pub new_key_line : Text × Text → Text
new_key_line keys = keys.0 ++ (codes "\t" ++ (keys.1 ++ codes "\n"))

-- a line for each old key, with the new key at the same place in its list
abbrev pub new_key_lines : List Text → List Text → Text
new_key_lines old new = flat_map new_key_line (zip old new)

-- `newkeys F`: a line for each entry, in file order, with its key and the one that is made for it from its record at this depth
abbrev pub newkeys_answer : ℕ → Reading → Answer
newkeys_answer depth db = answer_of (new_key_lines (keys_of (entries_of db)) (new_keys made_base depth (entries_of db))) [] 0
