use Rattle.std.proofs.Common.{◌∙◌}
use Rattle.bib_fields.proofs.ThreeForms.{agree-versions}
use Rattle.bib_fields.proofs.of_three.agree_on.Goals as goal

pub returns : goal.returns
returns c ma mb ea eb is_a is_b =
    agree-versions c.args.a.now c.args.b.now ma mb ea eb c.args.name.now c.copied-one.result c.copied-other.result c.in_ok-same.same is_a is_b
    (c.copied-one.ensures ∙ c.get.ensures) (c.copied-other.ensures ∙ c.get-2.ensures) c.in_ok-same.ensures
