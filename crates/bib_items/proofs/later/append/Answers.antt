use Rattle.bib_items.proofs.Words.{◌≡◌, ◌++◌, ◌+◌, ◌∙◌, length, ap, arith, Text, item_in}
use Rattle.bib_items.proofs.ItemsIn.{appended_is}
use Rattle.bib_items.proofs.later.append.Goals as goal

pub returns-clause-item : goal.returns-clause-item
returns-clause-item c = λ shared long.
    let own : Text = c.args.own.now.items in
    let now : c.extend_from_slice-2.new.self.items ≡ (own ++ c.args.body.now) ++ c.args.trail.now
    = c.in_ok-extend_from_slice-2.ensures.items ∙ ap (λ (t : Text). t ++ c.args.trail.now) c.in_ok-extend_from_slice.ensures.items in
    let own_len = c.len.ensures in
    let start : c.in_ok-span.span.start ≡ length shared + length own = omega (arith, long, c.in_ok-span.ensures.start, c.in-Some.ensures, c.len.ensures, own_len) in
    ap (λ (t : Text). item_in (shared ++ t) c.in_ok-span.span) now
    ∙ appended_is shared own c.args.body.now c.args.trail.now c.in_ok-span.span start c.in_ok-span.ensures.body c.in_ok-span.ensures.trail
