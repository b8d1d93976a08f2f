use Rattle.bib_run.proofs.Words.{◌≡◌, rules, ◌∙◌, old_len, new_len}
use Rattle.bib_run.proofs.LogLemmas.{old_len_shown, new_len_shown}
use Rattle.bib_run.proofs.commands.log.counts_part.Goals as goal

pub returns : goal.returns
returns c =
    let old : c.old_len-old_len.result ≡ old_len c.args.pieces.now = c.old_len-old_len.ensures ∙ old_len_shown c.args.pieces.now c.requires in
    let new : c.new_len-new_len.result ≡ new_len c.args.pieces.now = c.new_len-new_len.ensures ∙ new_len_shown c.args.pieces.now c.requires in
    search rules
