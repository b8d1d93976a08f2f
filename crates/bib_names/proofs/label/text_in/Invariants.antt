use Rattle.bib_names.proofs.Words.{◌≡◌, drop, text_in}
use Rattle.bib_names.proofs.label.text_in.Given as goal

abbrev pub invariant-loop-field : goal.invariant-loop-field
invariant-loop-field l = text_in (drop l.field-index l.fields) l.name ≡ text_in l.fields l.name
