use Rattle.bib_run.proofs.Words.{◌++◌, ap}
use Rattle.std.proofs.Common.{List}
use Rattle.std.specs.List.{flat_map}
use Rattle.ris_text.specs.Skipped.{Standing, stands}
use Rattle.bib_run.specs.ImportAnswer.{skipped_line, skipped_lines}
use Rattle.bib_run.proofs.SkippedLines.{listed_more}
use Rattle.bib_run.proofs.commands.skipping.add_lines.Goals as goal

pub lines-init : goal.lines-init
lines-init c = λ lines are. ap (λ (ls : List Standing). c.args.told.now.items ++ flat_map skipped_line ls) (c.of-rest.ensures lines are)

pub lines-preserved : goal.lines-preserved
lines-preserved c = λ lines are.
    listed_more c.lines.told.items c.add_line.new.told.items (c.args.told.now.items ++ skipped_lines c.args.text.now lines) c.lines.rest c.in-Some.after (stands c.in-Some.line)
    (c.lines.invariant lines are) c.in-Some.ensures.some c.in_ok-add_line.ensures
