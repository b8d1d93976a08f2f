use Rattle.std.proofs.Common.{◌≡◌, ◌∙◌, arith}
use Rattle.std.specs.Option.{option_copied}
use Rattle.bib_scan.specs.PartView.{part_view}
use Rattle.bib_value.specs.Macros.{without}
use Rattle.bib_value.proofs.RawLemmas.{len_to_more, len_to_over, len_to_all, parts_counted}
use Rattle.bib_value.proofs.raw.raw_len.Goals as goal

pub returns-then-part-len-clause-len : goal.returns-then-part-len-clause-len
returns-then-part-len-clause-len g c =
    len_to_over c.args.bytes.now (without (option_copied c.args.own) (g.M.MacroTable.macros c.args.macros.now)) c.measure.n c.measure.len c.part_text-part.result.now
    (λ v ok same. (part_view c.part.result, c.part.ensures v ok same, c.part_text-part.ensures)) c.if-part-len.true c.measure.invariant

pub measure-preserved : goal.measure-preserved
measure-preserved g c =
    len_to_more c.args.bytes.now (without (option_copied c.args.own) (g.M.MacroTable.macros c.args.macros.now)) c.measure.n c.measure.len c.part_text-part.result.now
    (λ v ok same. (part_view c.part.result, c.part.ensures v ok same, c.part_text-part.ensures)) c.if-part-len.false c.measure.invariant

pub returns-clause-len : goal.returns-clause-len
returns-clause-len g c =
    let end : c.measure.n ≡ c.len-n-end.result = omega arith in
    len_to_all c.args.bytes.now (without (option_copied c.args.own) (g.M.MacroTable.macros c.args.macros.now)) c.measure.n c.measure.len
    (λ v ok same. end ∙ parts_counted c.args.bytes.now c.args.parts.now c.len-n-end.result c.requires c.len-n-end.ensures.parts v ok same) c.measure.invariant
