use Rattle.std.proofs.Common.{◌≡◌, ◌∙◌, ◌+◌, sym, subst, arith}
use Rattle.std.specs.Option.{option_copied}
use Rattle.bib_scan.specs.PartView.{part_view}
use Rattle.bib_value.specs.Macros.{without}
use Rattle.bib_value.proofs.RawLemmas.{SaidTo, said_to_more, said_to_all, parts_counted}
use Rattle.bib_value.proofs.raw.raw_text.Goals as goal

pub join-preserved : goal.join-preserved
join-preserved g c =
    subst (SaidTo c.args.bytes.now (without (option_copied c.args.own) (g.M.MacroTable.macros c.args.macros.now)) (c.join.n + 1)) (sym c.in_ok-extend_from_slice.ensures.items)
    (said_to_more c.args.bytes.now (without (option_copied c.args.own) (g.M.MacroTable.macros c.args.macros.now)) c.join.n c.join.text.items c.part_text.result.now
    (λ v ok same. (part_view c.part.result, c.part.ensures v ok same, c.part_text.ensures)) c.join.invariant)

pub returns-clause-text : goal.returns-clause-text
returns-clause-text g c v ok same =
    let end : c.join.n ≡ c.len-n-end.result = omega arith in
    c.from_vec.ensures
    ∙ said_to_all c.args.bytes.now (without (option_copied c.args.own) (g.M.MacroTable.macros c.args.macros.now)) c.join.n c.join.text.items
    (λ v ok same. end ∙ parts_counted c.args.bytes.now c.args.parts.now c.len-n-end.result c.requires c.len-n-end.ensures.parts v ok same) c.join.invariant v ok same
