use Rattle.bib_edit.proofs.Words.{◌≡◌, true, take, list_all, is_name, names_of}
use Rattle.bib_edit.proofs.new_fields.are_named.Given as goal

abbrev pub invariant-loop-field : goal.invariant-loop-field
invariant-loop-field l = list_all is_name (names_of (take l.field-index l.fields)) ≡ true
