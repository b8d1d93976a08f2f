use Rattle.std.proofs.Common.{sym, ◌∙◌}
use Rattle.bib_index.proofs.Holding.{one_lost}
use Rattle.bib_index.proofs.key_index.KeyIndex.take_out.Goals as goal

pub invariant_of-self-2 : goal.invariant_of-self-2
invariant_of-self-2 c apart =
    one_lost c.self.inside.lists c.replace.new.self c.replace-2.new.self c.args.text.now c.in-Some.held c.new.result c.take_out.new.self c.args.id c.replace-2.result
    (c.self.invariant apart) (sym c.in-Some.is ∙ c.replace.ensures.value) c.new.ensures c.in-Some.ensures.some c.take_out.ensures c.replace-2.ensures.some c.replace-2.ensures.none
