use Rattle.bib_scan.proofs.Words.{sym, ◌∙◌}
use Rattle.bib_scan.specs.PartView.{part_view}
use Rattle.bib_scan.proofs.OnlyPart.{only_one}
use Rattle.bib_scan.proofs.parts.only_part.Goals as goal

pub returns : goal.returns
returns c =
    only_one c.args.bytes.now c.in_ok-first.field-0.now c.memchr.result (part_view c.part_in.result) c.memchr.ensures (sym c.is_some.ensures ∙ c.if-is_some.false) c.in_ok-first.ensures.value
    (λ p kind same. c.part_in.ensures p (kind ∙ sym c.begun_by-kind.ensures) same)
