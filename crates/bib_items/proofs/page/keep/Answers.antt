use Rattle.bib_items.proofs.Words.{◌<◌, ◌∙◌, length, sym, ap₂, refl, arith, item, span_end}
use Rattle.std.proofs.lemmas.Result.{IfOk-weaker}
use Rattle.bib_items.proofs.ItemsIn.{in_second, lies_in_second}
use Rattle.bib_items.proofs.page.keep.Goals as goal

pub returns-clause-item : goal.returns-clause-item
returns-clause-item c =
    let apart : length c.args.shared.now < span_end c.args.span = omega (arith, c.if-end-shared.false, c.end.ensures) in
    let lies = lies_in_second c.args.shared.now c.args.own.now c.args.span c.requires apart in
    IfOk-weaker c.append.result _ _
    (λ place h. h c.args.shared.now refl ∙ ap₂ item c.texts.ensures.body c.texts.ensures.trail ∙ sym (in_second c.args.shared.now c.args.own.now c.args.span lies.0))
    c.append.ensures.item
