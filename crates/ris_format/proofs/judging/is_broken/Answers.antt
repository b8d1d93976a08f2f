use Rattle.ris_format.proofs.Words.{◌∙◌, length, sym, ap, Text, commas}
use Rattle.ris_format.proofs.WrittenNames.{broken-count}
use Rattle.ris_format.proofs.judging.is_broken.Goals as goal

pub returns-else-not-balances : goal.returns-else-not-balances
returns-else-not-balances c =
    broken-count c.args.name.now c.comma_count.result (sym c.balances.ensures ∙ c.if-not-balances.false) (c.comma_count.ensures ∙ ap (λ (t : Text). length (commas t)) c.requires)
