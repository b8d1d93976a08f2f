use Rattle.std.proofs.Common.{◌∙◌, sym, ap, ◌∷◌}
use Rattle.bib_strays.specs.Strays.{strays_left}
use Rattle.bib_strays.proofs.LineSteps.{strays_passed, strays_found}
use Rattle.std.proofs.Math.Nat.{min-le_right}
use Rattle.bib_strays.proofs.strays.first_stray.Goals as goal

pub returns-in-Some-clause-found : goal.returns-in-Some-clause-found
returns-in-Some-clause-found c =
    strays_found c.args.commented c.args.text.now c.args.from c.lines.place c.min-after.result c.line_at-line.result.now c.in-Some.kind c.lines-test.true c.line_at-line.ensures.line (sym c.in-Some.ensures) c.min-after.ensures c.lines.invariant.1
    ∙ ap (λ t. record { kind = c.in-Some.kind; place = c.lines.place; text = t } ∷ strays_left c.args.commented c.min-after.result c.args.text.now) (sym c.shown-text.ensures)

pub lines-preserved : goal.lines-preserved
lines-preserved c = (
  rw c.min-after.ensures (min-le_right _ _),
  strays_passed c.args.commented c.args.text.now c.args.from c.lines.place c.min-after.result c.line_at-line.result.now c.lines-test.true c.line_at-line.ensures.line (sym c.in_default.ensures) c.min-after.ensures c.lines.invariant.1,
)
