use Rattle.bib_edit.proofs.Words.{◌≡◌, true, drop, list_all, is_name, names_given, has_field_twice}
use Rattle.bib_edit.proofs.new_entries.has_field_twice.Given as goal

abbrev pub invariant-entries : goal.invariant-entries
invariant-entries l =
    (list_all is_name (names_given (drop l.entry-index l.entries)) ≡ true) × (has_field_twice l.entries ≡ has_field_twice (drop l.entry-index l.entries))
