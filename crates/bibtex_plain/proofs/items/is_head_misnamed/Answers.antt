use Rattle.std.proofs.Common.{◌∙◌, Bool, ◌&&◌, ◌++◌, sym, ap}
use Rattle.bib_spec.specs.Text.{Text}
use Rattle.bib_scan.specs.View.{View}
use Rattle.bibtex_plain.specs.Walking.{begins_foreign}
use Rattle.bibtex_plain.proofs.ItemHeads.{item_named}
use Rattle.bibtex_plain.proofs.items.is_head_misnamed.Goals as goal

pub returns-then-is_comment : goal.returns-then-is_comment
returns-then-is_comment c i more seen is follows =
    let comment = c.if-is_comment.ensures i.tree (sym (c.kind.ensures ∙ ap (λ (v : View). v.kind) seen)) in
    c.begins_foreign.ensures more follows
    ∙ ap (λ (t : Text). begins_foreign (t ++ more)) (c.trail.ensures ∙ ap (λ (v : View). v.trail) seen)
    ∙ ap (λ (b : Bool). b && begins_foreign (i.trail ++ more)) comment
    ∙ sym (item_named i more c.args.is_followed is follows)

pub returns-else-is_comment : goal.returns-else-is_comment
returns-else-is_comment c i more seen is follows =
    let kind = sym (c.kind.ensures ∙ ap (λ (v : View). v.kind) seen) in
    c.is_comment.ensures i.tree kind
    ∙ sym (c.if-is_comment.ensures i.tree kind)
    ∙ ap (λ (b : Bool). b && begins_foreign (i.trail ++ more)) (c.if-is_comment.ensures i.tree kind)
    ∙ sym (item_named i more c.args.is_followed is follows)
