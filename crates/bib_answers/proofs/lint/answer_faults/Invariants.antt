use Rattle.bib_answers.proofs.Words.{◌≡◌, take, flat_map, IsKnown}
use Rattle.bib_answers.proofs.FaultLines.{told_line}
use Rattle.bib_answers.proofs.lint.answer_faults.Given as goal

abbrev pub invariant-faults : goal.invariant-faults
invariant-faults l = IsKnown l.file l.known × (l.lines.items ≡ flat_map (told_line l.name l.file) (take l.fault-index l.faults))
