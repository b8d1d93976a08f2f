use Rattle.std.proofs.Common.{◌∙◌, ap, codes, Option}
use Rattle.std.specs.Option.{option_map_or}
use Rattle.std.specs.Str.Parse.{ParsesUnsigned, ExplainsUnsignedError, HasUnsignedDigitsIfOk}
use Rattle.clap.specs.Words.{Text, found_of}
use Rattle.clap.specs.Matches.{one_text}
use Rattle.clap.proofs.WalkLemmas.{one_text-rows}
use Rattle.bib_command.specs.CommandLine.{number_said}
use Rattle.bib_command.proofs.Numbers.{one_number}
use Rattle.bib_command.proofs.parsing.number_of.Goals as goal

pub returns : goal.returns
returns c =
    c.unwrap_or.ensures ∙ (one_number 32 (λ bs r. ParsesUnsigned 32 10 bs r × ExplainsUnsignedError 10 bs r × HasUnsignedDigitsIfOk bs r) (one_text (found_of c.args.matches.now) (codes "N")) c.get_one.result (λ t x h. h.0) c.get_one.ensures.none c.get_one.ensures.value
    ∙ ap (λ (o : Option Text). option_map_or (number_said 32) o 0) (one_text-rows (found_of c.args.matches.now) (codes "N")))
