use Rattle.std.proofs.Common.{◌∙◌, sym, rules}
use Rattle.bib_value.proofs.spacing.field_text.Goals as goal

pub returns-then-is_neat-clause-text : goal.returns-then-is_neat-clause-text
returns-then-is_neat-clause-text c =
    c.in_ok-copied.ensures ∙ sym (c.is_neat.ensures.own (search rules))
