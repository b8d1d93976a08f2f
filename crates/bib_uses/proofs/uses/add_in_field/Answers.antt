use Rattle.std.proofs.Common.{map, arith}
use Rattle.bib_scan.specs.PartView.{part_view}
use Rattle.bib_value.proofs.RawLemmas.{parts_counted}
use Rattle.bib_uses.specs.Seen.{use_seen}
use Rattle.bib_uses.proofs.UsesRead.{added-begin, added-part, added-all}
use Rattle.bib_uses.proofs.uses.add_in_field.Goals as goal

pub parts-init : goal.parts-init
parts-init c = added-begin c.args.field.name.now c.args.field.value.now (map use_seen c.args.uses.now.items)

pub parts-preserved : goal.parts-preserved
parts-preserved c =
    added-part c.args.field.name.now c.args.field.value.now (map use_seen c.args.uses.now.items) (map use_seen c.parts.uses.items) (map use_seen c.add_in_part-in-parts.new.uses.items) c.parts.n (part_view c.part.result) c.part.ensures
    c.in_ok-add_in_part-2.ensures c.parts.invariant

pub returns : goal.returns
returns c =
    let end = c.parts-test.false in
    added-all c.args.field.name.now c.args.field.value.now (map use_seen c.args.uses.now.items) (map use_seen c.parts.uses.items) c.parts.n
    (λ v ok same. let count = parts_counted c.args.field.value.now c.in_ok-parts.parts c.len-n-end.result c.in_ok-parts.ensures c.len-n-end.ensures.parts v ok same in omega (arith, end, count))
    c.parts.invariant
