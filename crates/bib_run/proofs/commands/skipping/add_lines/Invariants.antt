use Rattle.bib_run.proofs.Words.{◌≡◌, ◌++◌, length}
use Rattle.std.proofs.Common.{List}
use Rattle.std.specs.List.{flat_map}
use Rattle.ris_text.specs.Lines.{Line}
use Rattle.ris_text.specs.Skipped.{AreSkipped}
use Rattle.bib_run.specs.ImportAnswer.{skipped_line, skipped_lines}
use Rattle.bib_run.proofs.commands.skipping.add_lines.Given as goal

abbrev pub invariant-lines : goal.invariant-lines
invariant-lines l = (lines : List Line) → AreSkipped l.text lines → l.told.items ++ flat_map skipped_line l.rest ≡ l.initial.told.items ++ skipped_lines l.text lines

abbrev pub decreases-lines : goal.decreases-lines
decreases-lines l = length l.rest
