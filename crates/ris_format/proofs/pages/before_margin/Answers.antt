use Rattle.ris_format.proofs.Words.{◌-◌, sym, ap, ◌∙◌, arith, is_margin}
use Rattle.std.specs.Prelude.{not}
use Rattle.bib_text.proofs.TrimLemmas.{IsTrimming-less, IsTrimming-done, IsTrimming-none, trimmed_at}
use Rattle.ris_format.proofs.pages.before_margin.Goals as goal
use Rattle.ris_format.proofs.pages.before_margin.Goals.{then-loop-end-test+else-is_margin, else-loop-end-test}

pub loop-end-preserved : goal.loop-end-preserved
loop-end-preserved c =
    IsTrimming-less (λ b. not (is_margin b)) _ _ c.loop-end.end _ 0 (omega arith) c.loop-end.invariant (ap not (sym c.is_margin.ensures ∙ c.if-is_margin.true))

pub returns : goal.returns
returns c = trimmed_at is_margin c.args.text.now c.loop-end.end (elim c.loop-end-test.branch [
  | then-loop-end-test+else-is_margin w ↦
      IsTrimming-done (λ b. not (is_margin b)) c.args.text.now _ c.loop-end.end (c.loop-end.end - 1) 0 (omega arith) c.loop-end.invariant (ap not (sym w.is_margin.ensures ∙ w.if-is_margin.false))
  | else-loop-end-test w ↦ IsTrimming-none (λ b. not (is_margin b)) c.args.text.now _ c.loop-end.end (omega arith) c.loop-end.invariant
])
