use Rattle.std.proofs.Common.{◌≡◌, ◌≢◌, ◌++◌, ◌∙◌, length, sym, ap, subst}
use Rattle.bib_spec.specs.Text.{Text}
use Rattle.bib_spec.specs.Tree.{tree_bytes}
use Rattle.bib_scan.specs.View.{View, kind_of}
use Rattle.bib_scan.specs.declared.view.Kind.{Kind}
use Rattle.bib_scan.specs.declared.view.Kind.TheVariants as kind
use Rattle.bib_units.proofs.CommentsGathered.{of-comment, of-other, item-len, begins-first, begins-rest}
use Rattle.bib_units.proofs.of_item.add_item.Goals as goal

pub returns-in_ok-add_comment-in-Comment-clause-rest : goal.returns-in_ok-add_comment-in-Comment-clause-rest
returns-in_ok-add_comment-in-Comment-clause-rest c i more seen rest =
    let is = sym (ap (λ (v : View). v.kind) seen) ∙ sym c.kind.ensures ∙ c.in-Comment.is in
    c.split_at.ensures.back
    ∙ begins-rest _ more c.args.rest.now _ (item-len c.args.item.now i c.body-len.result.now c.trail.result.now seen c.body-len.ensures c.trail.ensures)
    (rest ∙ ap (λ (t : Text). t ++ more) (of-comment i is))

pub returns-in_ok-add_comment-in-Comment-clause-units : goal.returns-in_ok-add_comment-in-Comment-clause-units
returns-in_ok-add_comment-in-Comment-clause-units c r i more before at seen rest are =
    let is = sym (ap (λ (v : View). v.kind) seen) ∙ sym c.kind.ensures ∙ c.in-Comment.is in
    let text = c.split_at.ensures.front
    ∙ begins-first _ more c.args.rest.now _ (item-len c.args.item.now i c.body-len.result.now c.trail.result.now seen c.body-len.ensures c.trail.ensures)
    (rest ∙ ap (λ (t : Text). t ++ more) (of-comment i is)) in
    c.in_ok-add_comment-in-Comment.ensures r i before at (sym text) (sym (ap length (c.body-len.ensures ∙ ap (λ (v : View). v.body) seen))) is are

pub returns-in_ok-add_plain-in_default-clause-rest : goal.returns-in_ok-add_plain-in_default-clause-rest
returns-in_ok-add_plain-in_default-clause-rest c i more seen rest =
    let other : kind_of i.tree ≢ kind.Comment = subst (λ (k : Kind). k ≢ kind.Comment) (c.kind.ensures ∙ ap (λ (v : View). v.kind) seen) c.in_default.not-Comment in
    rest ∙ ap (λ (t : Text). t ++ more) (of-other i other)

pub returns-in_ok-add_plain-in_default-clause-units : goal.returns-in_ok-add_plain-in_default-clause-units
returns-in_ok-add_plain-in_default-clause-units c r i more before at seen rest are =
    let other : kind_of i.tree ≢ kind.Comment = subst (λ (k : Kind). k ≢ kind.Comment) (c.kind.ensures ∙ ap (λ (v : View). v.kind) seen) c.in_default.not-Comment in
    let body : tree_bytes i.tree ≡ c.body-body.result.now = sym (c.body-body.ensures ∙ ap (λ (v : View). v.body) seen) in
    c.in_ok-add_plain-in_default.ensures r i before at body (sym (c.trail-in_default.ensures ∙ ap (λ (v : View). v.trail) seen)) other (c.label_of.ensures i.tree i.trail seen body other) are
