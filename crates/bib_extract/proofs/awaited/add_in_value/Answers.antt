use Rattle.std.proofs.Common.{arith}
use Rattle.bib_scan.specs.PartView.{part_view}
use Rattle.bib_value.proofs.RawLemmas.{parts_counted}
use Rattle.bib_extract.proofs.NamesAwaited.{only-is, part-is, gains-only, gained-begin, gained-part, gained-all}
use Rattle.bib_extract.proofs.awaited.add_in_value.Goals as goal

pub add_name-requires : goal.add_name-requires
add_name-requires c = only-is c.args.value.now (part_view c.in-Some.part) c.requires c.in-Some.ensures

pub returns-in-Some : goal.returns-in-Some
returns-in-Some c = gains-only c.args.value.now (part_view c.in-Some.part) c.args.names.now c.add_name.new.names c.in-Some.ensures c.in_ok-add_name.ensures

pub parts-init : goal.parts-init
parts-init c = gained-begin c.args.value.now c.args.names.now

pub add_name-requires-in-parts : goal.add_name-requires-in-parts
add_name-requires-in-parts c = part-is c.args.value.now c.parts.n (part_view c.part.result) c.requires c.part.ensures

pub parts-preserved : goal.parts-preserved
parts-preserved c =
    gained-part c.args.value.now c.args.names.now c.parts.names c.add_name-in-parts.new.names c.parts.n (part_view c.part.result) c.part.ensures c.in_ok-add_name-2.ensures c.parts.invariant

pub returns : goal.returns
returns c =
    let end = c.parts-test.false in
    gained-all c.args.value.now c.args.names.now c.parts.names c.parts.n
    (λ v ok same. let count = parts_counted c.args.value.now c.in_ok-parts.parts c.len-n-end.result c.in_ok-parts.ensures c.len-n-end.ensures.parts v ok same in omega (arith, end, count))
    c.parts.invariant
