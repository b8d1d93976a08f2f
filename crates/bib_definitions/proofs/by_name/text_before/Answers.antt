use Rattle.bib_definitions.proofs.Words.{Some, sym, ◌∙◌, ap, arith}
use Rattle.std.proofs.Common.{◌-◌}
use Rattle.bib_definitions.proofs.DefinedNames.{before_none, before_some}
use Rattle.bib_definitions.proofs.by_name.text_before.Goals as goal

pub returns-then-count-eq0 : goal.returns-then-count-eq0
returns-then-count-eq0 c = sym (before_none c.args.label c.count_below-count.result c.args.definitions.now c.count_below-count.ensures.point c.if-count-eq0.true)

pub returns : goal.returns
returns c =
    let some = c.if-count-eq0.false in
    ap Some c.as_slice.ensures
    ∙ sym (before_some c.args.label c.count_below-count.result c.args.definitions.now c.count_below-count.ensures.point _ (c.count_below-count.result - 1) (omega (arith, some)) c.count_below-count.ensures.within)
