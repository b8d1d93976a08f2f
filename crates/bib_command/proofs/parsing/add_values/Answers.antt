use Rattle.std.proofs.Common.{◌∙◌, ◌++◌, [], ap, sym, unwrap_or, append-nil}
use Rattle.std.proofs.lemmas.Result.{on_ok_weaker}
use Rattle.clap.specs.Words.{found_of}
use Rattle.clap.proofs.WalkLemmas.{raw_values-rows}
use Rattle.bib_command.proofs.parsing.add_values.Goals as goal

pub returns-in-Some : goal.returns-in-Some
returns-in-Some c =
    on_ok_weaker c.add_words.result (λ h. h ∙ ap (λ o. c.args.texts.now.items ++ unwrap_or o []) (c.in-Some.ensures ∙ raw_values-rows (found_of c.args.matches.now) c.args.id.now)) c.add_words.ensures

pub returns-in-None : goal.returns-in-None
returns-in-None c =
    sym (append-nil c.args.texts.now.items) ∙ ap (λ o. c.args.texts.now.items ++ unwrap_or o []) (c.in-None.ensures ∙ raw_values-rows (found_of c.args.matches.now) c.args.id.now)
