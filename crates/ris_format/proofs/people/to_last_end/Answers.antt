use Rattle.ris_format.proofs.Words.{◌∙◌, arith}
use Rattle.ris_format.proofs.SliceLemmas.{last-end}
use Rattle.ris_format.proofs.people.to_last_end.Goals as goal

pub returns-in-len1-up : goal.returns-in-len1-up
returns-in-len1-up c =
    c.to_word_end.ensures ∙ last-end c.args.name.now c.args.start c.args.words.now c.index-words-words.result (omega (arith, c.in-len1-up.len_at_least)) c.index-words-words.is
