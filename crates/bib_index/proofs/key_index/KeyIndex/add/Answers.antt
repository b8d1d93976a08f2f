use Rattle.std.proofs.Common.{ap}
use Rattle.std.proofs.lemmas.Result.{on_ok_weaker}
use Rattle.bib_spec.specs.Text.{folded}
use Rattle.bib_index.specs.KeyIndex.{ids_in, is_text, has_text}
use Rattle.bib_index.proofs.Holding.{added}
use Rattle.bib_index.proofs.key_index.KeyIndex.add.Goals as goal

pub returns-clause-ok : goal.returns-clause-ok
returns-clause-ok c =
    let text = c.args.text.now in
    on_ok_weaker c.put_in.result
    (λ given texts none is.
    added texts c.args.order.now (ids_in c.args.self.now) (ids_in c.put_in.new.self) text c.args.id none is
    (given (has_text texts (folded text)) (ap (λ o. is_text o (folded text)) none) (is (folded text))))
    c.put_in.ensures.ok
