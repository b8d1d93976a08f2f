use Rattle.std.proofs.Common.{◌∙◌, ◌++◌, ◌∷◌, [], length, ap, ap₂}
use Rattle.std.proofs.lemmas.Result.{IfOk-weaker}
use Rattle.bib_shelf.proofs.Joins.{joined_more, not_empty}
use Rattle.bib_shelf.proofs.joining.Joined.with.Goals as goal

pub returns : goal.returns
returns c = IfOk-weaker c.added-2.result _ _ (λ joined is files are.
    joined_more files c.args.file.now c.extend_from_slice.new.self.items c.args.self joined are
    (not_empty c.args.self.spans c.as_slice.result.now c.is_empty.result c.is_empty.ensures c.if-is_empty.false c.as_slice.ensures)
    (c.in_ok-extend_from_slice.ensures.items ∙ ap₂ (λ a b. a ++ b) c.into_vec-text.ensures c.seam.ensures)
    is.0 (is.1 ∙ ap (λ l. l ++ (length c.extend_from_slice.new.self.items, length (c.extend_from_slice.new.self.items ++ c.args.file.now)) ∷ []) c.into_vec-2.ensures)) c.added-2.ensures
