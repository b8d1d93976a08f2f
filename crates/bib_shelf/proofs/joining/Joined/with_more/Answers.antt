use Rattle.std.proofs.Common.{◌∙◌, ◌++◌, ◌∷◌, [], length, ap, sym}
use Rattle.std.proofs.lemmas.Result.{IfOk-weaker}
use Rattle.bib_shelf.proofs.Joins.{joined_longer}
use Rattle.bib_shelf.proofs.joining.Joined.with_more.Goals as goal

pub returns-in-Some : goal.returns-in-Some
returns-in-Some c = IfOk-weaker c.ended.result _ _ (λ joined is files last are.
    joined_longer files last c.args.bytes.now c.pop.new.self.items c.in-Some.start c.in-Some.field-0-1 c.args.self joined are
    (sym c.into_vec-spans.ensures ∙ c.in-Some.ensures.items)
    (is.0 ∙ ap (λ t. t ++ c.args.bytes.now) c.into_vec.ensures)
    (is.1 ∙ ap (λ t. c.pop.new.self.items ++ (c.in-Some.start, length (t ++ c.args.bytes.now)) ∷ []) c.into_vec.ensures)) c.ended.ensures
