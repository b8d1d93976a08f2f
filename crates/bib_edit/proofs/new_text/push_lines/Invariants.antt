use Rattle.bib_edit.proofs.Words.{◌≡◌, ◌++◌, take, lines_of}
use Rattle.bib_edit.proofs.new_text.push_lines.Given as goal

abbrev pub invariant-loop-field : goal.invariant-loop-field
invariant-loop-field l = l.text.items ≡ l.initial.text.items ++ lines_of (take l.field-index l.fields)
