use Rattle.ris_format.proofs.Words.{◌-◌, sym, ap, ◌∙◌, arith}
use Rattle.std.specs.Prelude.{not}
use Rattle.bib_names.specs.Marks.{is_dropped_at_end}
use Rattle.bib_text.proofs.TrimLemmas.{IsTrimming-less, IsTrimming-done, IsTrimming-none, trimmed_at}
use Rattle.ris_format.proofs.judging.without_end.Goals as goal
use Rattle.ris_format.proofs.judging.without_end.Goals.{then-loop-end-test+else-is_dropped_at_end, else-loop-end-test}

pub loop-end-preserved : goal.loop-end-preserved
loop-end-preserved c =
    IsTrimming-less (λ b. not (is_dropped_at_end b)) _ _ c.loop-end.end _ 0 (omega arith) c.loop-end.invariant (ap not (sym c.is_dropped_at_end.ensures ∙ c.if-is_dropped_at_end.true))

pub returns : goal.returns
returns c = trimmed_at is_dropped_at_end c.args.name.now c.loop-end.end (elim c.loop-end-test.branch [
  | then-loop-end-test+else-is_dropped_at_end w ↦
      IsTrimming-done (λ b. not (is_dropped_at_end b)) c.args.name.now _ c.loop-end.end (c.loop-end.end - 1) 0 (omega arith) c.loop-end.invariant (ap not (sym w.is_dropped_at_end.ensures ∙ w.if-is_dropped_at_end.false))
  | else-loop-end-test w ↦ IsTrimming-none (λ b. not (is_dropped_at_end b)) c.args.name.now _ c.loop-end.end (omega arith) c.loop-end.invariant
])
