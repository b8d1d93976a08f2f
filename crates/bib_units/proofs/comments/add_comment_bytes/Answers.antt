use Rattle.std.proofs.Common.{◌≢◌, ◌++◌, ◌∙◌, sym, ap, subst, append-nil}
use Rattle.bib_spec.specs.Text.{Text}
use Rattle.bib_scan.specs.View.{View, kind_of}
use Rattle.bib_scan.specs.declared.view.Kind.{Kind}
use Rattle.bib_scan.specs.declared.view.Kind.TheVariants as kind
use Rattle.bib_units.proofs.CommentsGathered.{of-other, comment-added}
use Rattle.bib_units.proofs.comments.add_comment_bytes.Goals as goal

pub returns-in_ok-extend_from_slice-in-Comment-2 : goal.returns-in_ok-extend_from_slice-in-Comment-2
returns-in_ok-extend_from_slice-in-Comment-2 c i seen =
    comment-added i c.args.out.now.items c.extend_from_slice.new.self.items c.extend_from_slice-in-Comment.new.self.items _ _
    (sym (ap (λ (v : View). v.kind) seen) ∙ sym c.kind.ensures ∙ c.in-Comment.is)
    (c.body.ensures ∙ ap (λ (v : View). v.body) seen) (c.trail.ensures ∙ ap (λ (v : View). v.trail) seen)
    c.in_ok-extend_from_slice-in-Comment.ensures.items c.in_ok-extend_from_slice-in-Comment-2.ensures.items

pub returns-in_default : goal.returns-in_default
returns-in_default c i seen =
    sym (ap (λ (t : Text). c.args.out.now.items ++ t) (of-other i (subst (λ (k : Kind). k ≢ kind.Comment) (c.kind.ensures ∙ ap (λ (v : View). v.kind) seen) c.in_default.not-Comment)) ∙ append-nil c.args.out.now.items)
