use Rattle.bib_answers.proofs.Words.{◌≡◌, ◌++◌, take, flat_map, shown_field}
use Rattle.bib_answers.proofs.show.add_fields.Given as goal

abbrev pub invariant-loop-field : goal.invariant-loop-field
invariant-loop-field l = l.out.items ≡ l.initial.out.items ++ flat_map shown_field (take l.field-index l.fields)
