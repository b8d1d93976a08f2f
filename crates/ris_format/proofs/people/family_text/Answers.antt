use Rattle.ris_format.proofs.Words.{◌≡◌, ◌∙◌, ap, arith, rules, to_last_end}
use Rattle.ris_format.proofs.SliceLemmas.{family-part}
use Rattle.ris_format.proofs.people.family_text.Goals as goal

pub returns-in-len1-up : goal.returns-in-len1-up
returns-in-len1-up c =
    let start : c.first.inside.at ≡ c.first-item.result.at = search rules in
    c.to_last_end.ensures ∙ ap (λ n. to_last_end c.args.name.now n c.args.last.now) start
    ∙ family-part c.args.name.now c.args.von.now c.args.last.now c.first-item.result (omega (arith, c.in-len1-up.len_at_least)) c.first-item.is
