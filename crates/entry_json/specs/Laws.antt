-- What readers of JSON make of an entry's text.
use Rattle.std.specs.Prelude.{◌≡◌, Some}
use Rattle.json.specs.Json.{document}
use Rattle.json.specs.Print.{print}
use Rattle.json.specs.Tree.{json_tokens}
use Rattle.entry_json.specs.EntryJson.{Told, entry_json}

-- the text of an entry is read as the value of that entry, whatever bytes its texts have
abbrev pub EntriesAreReadBack : Type 0
EntriesAreReadBack = (told : Told) → document (print (json_tokens (entry_json told))) ≡ Some (entry_json told)
