use Rattle.std.proofs.Common.{◌≤◌, ◌<◌, ◌∙◌, subst}
use Rattle.bib_units.proofs.UnitsOfFile.{slice_get-within}
use Rattle.bib_units.proofs.CommentsGathered.{comments-more, comments-all}
use Rattle.bib_units.proofs.comments.comments_of.Goals as goal

pub items-preserved : goal.items-preserved
items-preserved g c r reads =
    let item = slice_get-within r.items c.items.n (subst (λ k. c.items.n < k) (c.item_count-n-end.ensures r reads) c.items-test.true) in
    comments-more r c.items.n c.items.out.items c.add_comment_bytes.new.out.items item.0 item.1
    (c.in_ok-add_comment_bytes.ensures item.0 (c.item-item.ensures r reads item.0 item.1)) (c.items.invariant r reads)

pub returns : goal.returns
returns g c r reads =
    c.from_vec.ensures ∙ comments-all r c.items.n c.items.out.items (subst (λ k. k ≤ c.items.n) (c.item_count-n-end.ensures r reads) c.items-test.false) (c.items.invariant r reads)
