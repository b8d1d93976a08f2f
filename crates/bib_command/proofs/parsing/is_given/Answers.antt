use Rattle.std.proofs.Common.{◌∙◌, ap, Option, false, codes}
use Rattle.std.specs.Option.{option_map_or}
use Rattle.std.specs.Str.{bytes_eq}
use Rattle.std.specs.Str.Parse.{ParsesBool}
use Rattle.clap.specs.Words.{Text, found_of}
use Rattle.clap.specs.Matches.{one_text}
use Rattle.clap.proofs.WalkLemmas.{one_text-rows}
use Rattle.bib_command.proofs.Switches.{one_switch}
use Rattle.bib_command.proofs.parsing.is_given.Goals as goal

pub returns : goal.returns
returns c =
    c.unwrap_or.ensures ∙ (one_switch (λ bs r. ParsesBool bs r) (one_text (found_of c.args.matches.now) c.args.name.now) c.get_one.result (λ t x h. h) c.get_one.ensures.none c.get_one.ensures.value
    ∙ ap (λ (o : Option Text). option_map_or (λ text. bytes_eq text (codes "true")) o false) (one_text-rows (found_of c.args.matches.now) c.args.name.now))
