-- An entry's text is read as that entry.
use Rattle.std.proofs.Common.{◌≡◌, List, [], ◌∷◌, Option, None, Some, arith}
use Rattle.json.specs.Json.{document}
use Rattle.json.specs.Print.{print}
use Rattle.json.specs.Tree.{json_tokens, depth, members_depth, HasNumbers, MembersHaveNumbers}
use Rattle.json.proofs.Printed.Trees.{document-print}
use Rattle.bib_spec.specs.Text.{Text}
use Rattle.bib_spec.specs.Records.{RecordField}
use Rattle.entry_json.specs.EntryJson.{Told, parent_json, fields_json, entry_json}

fields_flat : (fields : List RecordField) → members_depth (fields_json fields) ≡ 0
fields_flat [] = omega arith
fields_flat (field ∷ fields) = omega (arith, fields_flat fields)

parent_flat : (parent : Option Text) → depth (parent_json parent) ≡ 0
parent_flat None = omega arith
parent_flat (Some key) = omega arith

fields_numbers : (fields : List RecordField) → MembersHaveNumbers (fields_json fields)
fields_numbers [] = tt
fields_numbers (field ∷ fields) = (tt, fields_numbers fields)

parent_numbers : (parent : Option Text) → HasNumbers (parent_json parent)
parent_numbers None = tt
parent_numbers (Some key) = tt

pub read_back : (told : Told) → document (print (json_tokens (entry_json told))) ≡ Some (entry_json told)
read_back told =
    document-print (entry_json told) (tt, (tt, (parent_numbers told.1, (fields_numbers told.0.fields, tt))))
    (omega (arith, fields_flat told.0.fields, parent_flat told.1))
