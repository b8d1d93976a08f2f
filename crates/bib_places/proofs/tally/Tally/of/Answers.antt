use Rattle.std.proofs.Common.{◌≡◌, get_or, sym, ap, ◌∙◌, subst, cond, ◌+◌}
use Rattle.std.specs.Str.{bytes_eq}
use Rattle.bib_spec.specs.Text.{Text}
use Rattle.std.proofs.lemmas.List.{take_all}
use Rattle.bib_places.specs.Tallies.{count_of}
use Rattle.bib_places.proofs.Counting.{count-more}
use Rattle.bib_places.proofs.tally.Tally.of.Goals as goal

pub loop-text-preserved : goal.loop-text-preserved
loop-text-preserved c =
    let texts = c.args.texts.now in
    let n = c.loop-text.text-index in
    let next = c.as_slice.result.now in
    let is : next ≡ get_or texts n next = subst (λ (t : Text). t ≡ get_or texts n t) (sym c.as_slice.ensures) c.text-item.is in
    λ text.
    c.in_ok-add.ensures text ∙ ap (λ k. k + cond (bytes_eq text next) 1 0) (c.loop-text.invariant text) ∙ sym (count-more text texts n next c.loop-text-test.true is)

pub returns : goal.returns
returns c = λ text. c.loop-text.invariant text ∙ ap (count_of text) (take_all c.loop-text.text-index c.args.texts.now c.loop-text-test.false)
