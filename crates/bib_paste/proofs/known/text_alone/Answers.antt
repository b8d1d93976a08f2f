use Rattle.std.proofs.Common.{◌≡◌, ◌∙◌, sym, arith, length}
use Rattle.bib_scan.specs.PartView.{part_view}
use Rattle.bib_spec.specs.Texts.{parts_of}
use Rattle.bib_value.proofs.RawLemmas.{parts_counted}
use Rattle.bib_paste.proofs.PartsAlone.{alone, not-alone}
use Rattle.bib_paste.proofs.known.text_alone.Goals as goal

pub returns-then-len-ne1 : goal.returns-then-len-ne1
returns-then-len-ne1 c v ok same =
    let count = parts_counted c.args.value.now c.args.parts.now c.len.result c.requires c.len.ensures.parts v ok same in
    let other = c.if-len-ne1.true in
    not-alone (parts_of v) (λ (one : length (parts_of v) ≡ 1). let is : c.len.result ≡ 1 = count ∙ one in absurd (omega (arith, other, is)))

pub returns : goal.returns
returns c v ok same =
    let count = parts_counted c.args.value.now c.args.parts.now c.len.result c.requires c.len.ensures.parts v ok same in
    let test = c.if-len-ne1.false in
    let one : c.len.result ≡ 1 = omega (arith, test) in
    c.own_text.ensures ∙ alone (parts_of v) (part_view c.part.result) (sym count ∙ one) (c.part.ensures v ok same)
