use Rattle.bib_scan.proofs.Words.{ℕ, ◌<◌, ◌-◌, ◌∙◌, length, take, sym, ap, subst, arith, length-drop, Places, IsLayoutOf}
use Rattle.bib_scan.proofs.LayoutLaws.{body_lies, body_is}
use Rattle.bib_scan.proofs.layout.Layout.body.Goals as goal

pub text_from-requires : goal.text_from-requires
text_from-requires c =
    let layout = subst (IsLayoutOf c.args.bytes.now) (sym c.self.view_is) c.requires.layout in
    let lt = subst (λ (p : Places). c.args.n < length p.items) (sym c.self.view_is) c.requires.n_in_range in
    let lies = body_lies c.args.bytes.now _ c.args.n c.index-body.result.now layout lt c.index-body.ensures in
    omega (arith, lies.ordered, lies.within)

pub overflow_sub-body : goal.overflow_sub-body
overflow_sub-body c =
    let layout = subst (IsLayoutOf c.args.bytes.now) (sym c.self.view_is) c.requires.layout in
    let lt = subst (λ (p : Places). c.args.n < length p.items) (sym c.self.view_is) c.requires.n_in_range in
    let lies = body_lies c.args.bytes.now _ c.args.n c.index-body.result.now layout lt c.index-body.ensures in
    omega (arith, lies.ordered)

pub split_at-requires : goal.split_at-requires
split_at-requires c =
    let layout = subst (IsLayoutOf c.args.bytes.now) (sym c.self.view_is) c.requires.layout in
    let lt = subst (λ (p : Places). c.args.n < length p.items) (sym c.self.view_is) c.requires.n_in_range in
    let lies = body_lies c.args.bytes.now _ c.args.n c.index-body.result.now layout lt c.index-body.ensures in
    omega (arith, lies.ordered, lies.within, ap (length {A = ℕ}) c.text_from.ensures, length-drop c.index-body.result.now.start c.args.bytes.now)

pub returns : goal.returns
returns c db i reads found =
    let layout = subst (IsLayoutOf c.args.bytes.now) (sym c.self.view_is) c.requires.layout in
    let lt = subst (λ (p : Places). c.args.n < length p.items) (sym c.self.view_is) c.requires.n_in_range in
    let s = c.index-body.result.now in
    c.split_at.ensures.front ∙ ap (take (s.end - s.start)) c.text_from.ensures
    ∙ body_is c.args.bytes.now _ c.args.n s db i layout lt c.index-body.ensures reads found
