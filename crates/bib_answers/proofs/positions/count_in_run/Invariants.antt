use Rattle.bib_answers.proofs.Words.{◌≡◌, ◌≤◌, take, is_line_feed}
use Rattle.std.specs.List.{count_by}
use Rattle.bib_answers.proofs.positions.count_in_run.Given as goal

abbrev pub invariant-bytes : goal.invariant-bytes
invariant-bytes l = (l.count ≡ count_by is_line_feed (take l.byte-index l.run)) × (l.count ≤ l.byte-index)
