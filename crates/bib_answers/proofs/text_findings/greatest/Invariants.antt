use Rattle.bib_answers.proofs.Words.{◌≡◌, ◌<◌, take}
use Rattle.std.specs.List.{count_by}
use Rattle.bib_answers.specs.Plain.{is_other}
use Rattle.bib_answers.proofs.text_findings.greatest.Given as goal

abbrev pub invariant-bytes : goal.invariant-bytes
invariant-bytes l = l.greatest < 128 → count_by is_other (take l.byte-index l.text) ≡ 0
