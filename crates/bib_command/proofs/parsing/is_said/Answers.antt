use Rattle.std.proofs.Common.{◌∙◌, ap}
use Rattle.clap.specs.Words.{found_of}
use Rattle.bib_command.specs.CommandLine.{is_from_words}
use Rattle.bib_command.proofs.Sources.{source-rows}
use Rattle.bib_command.proofs.parsing.is_said.Goals as goal

pub returns-in-Some : goal.returns-in-Some
returns-in-Some c = c.is_from_words.ensures ∙ ap is_from_words (c.in-Some.ensures ∙ source-rows (found_of c.args.matches.now) c.args.id.now)

pub returns-in-None : goal.returns-in-None
returns-in-None c = ap is_from_words (c.in-None.ensures ∙ source-rows (found_of c.args.matches.now) c.args.id.now)
