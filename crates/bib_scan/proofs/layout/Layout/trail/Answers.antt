use Rattle.bib_scan.proofs.Words.{ℕ, ◌<◌, ◌-◌, ◌∙◌, length, take, sym, ap, subst, arith, length-drop, Places, trail_end, IsLayoutOf}
use Rattle.bib_scan.proofs.LayoutLaws.{trail_lies, trail_is}
use Rattle.bib_scan.proofs.layout.Layout.trail.Goals as goal

pub text_from-requires : goal.text_from-requires
text_from-requires c =
    let layout = subst (IsLayoutOf c.args.bytes.now) (sym c.self.view_is) c.requires.layout in
    let lt = subst (λ (p : Places). c.args.n < length p.items) (sym c.self.view_is) c.requires.n_in_range in
    let ends = c.trail_end-end.ensures ∙ ap (λ (p : Places). trail_end c.args.bytes.now p c.args.n) (sym c.self.view_is) in
    let lies = trail_lies c.args.bytes.now _ c.args.n _ c.index-body.result.now layout lt c.index-body.ensures ends in
    omega (arith, lies.ordered, lies.within)

pub overflow_sub-end : goal.overflow_sub-end
overflow_sub-end c =
    let layout = subst (IsLayoutOf c.args.bytes.now) (sym c.self.view_is) c.requires.layout in
    let lt = subst (λ (p : Places). c.args.n < length p.items) (sym c.self.view_is) c.requires.n_in_range in
    let ends = c.trail_end-end.ensures ∙ ap (λ (p : Places). trail_end c.args.bytes.now p c.args.n) (sym c.self.view_is) in
    let lies = trail_lies c.args.bytes.now _ c.args.n _ c.index-body.result.now layout lt c.index-body.ensures ends in
    omega (arith, lies.ordered)

pub split_at-requires : goal.split_at-requires
split_at-requires c =
    let layout = subst (IsLayoutOf c.args.bytes.now) (sym c.self.view_is) c.requires.layout in
    let lt = subst (λ (p : Places). c.args.n < length p.items) (sym c.self.view_is) c.requires.n_in_range in
    let ends = c.trail_end-end.ensures ∙ ap (λ (p : Places). trail_end c.args.bytes.now p c.args.n) (sym c.self.view_is) in
    let lies = trail_lies c.args.bytes.now _ c.args.n _ c.index-body.result.now layout lt c.index-body.ensures ends in
    omega (arith, lies.ordered, lies.within, ap (length {A = ℕ}) c.text_from.ensures, length-drop c.index-body.result.now.end c.args.bytes.now)

pub returns : goal.returns
returns c db i reads found =
    let layout = subst (IsLayoutOf c.args.bytes.now) (sym c.self.view_is) c.requires.layout in
    let lt = subst (λ (p : Places). c.args.n < length p.items) (sym c.self.view_is) c.requires.n_in_range in
    let ends = c.trail_end-end.ensures ∙ ap (λ (p : Places). trail_end c.args.bytes.now p c.args.n) (sym c.self.view_is) in
    let s = c.index-body.result.now in
    c.split_at.ensures.front ∙ ap (take (c.trail_end-end.result - s.end)) c.text_from.ensures
    ∙ trail_is c.args.bytes.now _ c.args.n _ s db i layout lt c.index-body.ensures ends reads found
