use Rattle.bib_store.proofs.Words.{◌≡◌, ◌∙◌, sym, arith, part_view}
use Rattle.bib_spec.specs.Texts.{parts_of}
use Rattle.bib_value.proofs.RawLemmas.{parts_counted}
use Rattle.bib_store.proofs.SettledCrossrefs.{literals_more, literals_all}
use Rattle.bib_store.proofs.bounds.are_literal.Goals as goal

pub parts-preserved : goal.parts-preserved
parts-preserved c v good e = literals_more c.parts.n (parts_of v) (part_view c.part.result) (c.part.ensures v good e) (sym c.is_literal.ensures ∙ c.if-not-is_literal.false) (c.parts.invariant v good e)

pub returns : goal.returns
returns c is v good e =
    let end : c.parts.n ≡ c.len-n-end.result = omega arith in
    literals_all c.parts.n (parts_of v) (end ∙ parts_counted c.args.bytes.now c.args.parts.now c.len-n-end.result c.requires c.len-n-end.ensures.parts v good e) (c.parts.invariant v good e)
