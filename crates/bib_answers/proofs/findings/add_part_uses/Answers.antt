use Rattle.bib_answers.proofs.Words.{◌≡◌, ◌∙◌, ◌+◌, ℕ, option_copied, Part, part_view, parts_counted, use_findings}
use Rattle.std.proofs.Common.{arith}
use Rattle.bib_answers.proofs.FindingSteps.{uses_more, uses_all}
use Rattle.bib_answers.proofs.findings.add_part_uses.Goals as goal

pub uses-preserved : goal.uses-preserved
uses-preserved g c =
    uses_more c.args.value.bytes.now c.args.parts.now (λ (placed : ℕ × Part). use_findings (option_copied c.args.value.own) (g.M.MacroTable.macros c.args.macros.now) (c.args.value.at + placed.0) placed.1)
    c.uses.n c.place.result (part_view c.part.result) c.args.lines.now c.uses.lines c.add_use.new.lines
    c.requires c.place.ensures (λ v ok same. c.part.ensures v ok same) c.in_ok-add_use.ensures c.uses.invariant

pub returns : goal.returns
returns g c =
    let end : c.uses.n ≡ c.len-n-end.result = omega arith in
    uses_all c.args.value.bytes.now (λ (placed : ℕ × Part). use_findings (option_copied c.args.value.own) (g.M.MacroTable.macros c.args.macros.now) (c.args.value.at + placed.0) placed.1) c.uses.n c.args.lines.now c.uses.lines
    (λ v ok same. end ∙ parts_counted c.args.value.bytes.now c.args.parts.now c.len-n-end.result c.requires c.len-n-end.ensures.parts v ok same) c.uses.invariant
