use Rattle.std.proofs.Common.{◌≡◌, ◌++◌, take}
use Rattle.std.specs.List.{flat_map}
use Rattle.bib_answers.specs.Show.{shown_field}
use Rattle.bibtex_answers.proofs.show.add_fields.Given as goal

abbrev pub invariant-fields : goal.invariant-fields
invariant-fields l = l.out.items ≡ l.initial.out.items ++ flat_map shown_field (take l.field-index l.fields)
