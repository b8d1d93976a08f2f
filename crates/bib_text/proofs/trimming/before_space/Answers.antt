use Rattle.std.proofs.Common.{◌-◌, sym, ap, ◌∙◌, arith}
use Rattle.std.specs.Prelude.{not}
use Rattle.bib_spec.specs.Text.{is_space}
use Rattle.bib_text.proofs.TrimLemmas.{IsTrimming-less, IsTrimming-done, IsTrimming-none, trimmed_at}
use Rattle.bib_text.proofs.trimming.before_space.Goals as goal
use Rattle.bib_text.proofs.trimming.before_space.Goals.{then-loop-end-test+else-is_space, else-loop-end-test}

pub loop-end-preserved : goal.loop-end-preserved
loop-end-preserved c =
    IsTrimming-less (λ b. not (is_space b)) _ _ c.loop-end.end _ 0 (omega arith) c.loop-end.invariant (ap not (sym c.is_space.ensures ∙ c.if-is_space.true))

pub returns : goal.returns
returns c = trimmed_at is_space c.args.text.now c.loop-end.end (elim c.loop-end-test.branch [
  | then-loop-end-test+else-is_space w ↦
      IsTrimming-done (λ b. not (is_space b)) c.args.text.now _ c.loop-end.end (c.loop-end.end - 1) 0 (omega arith) c.loop-end.invariant (ap not (sym w.is_space.ensures ∙ w.if-is_space.false))
  | else-loop-end-test w ↦ IsTrimming-none (λ b. not (is_space b)) c.args.text.now _ c.loop-end.end (omega arith) c.loop-end.invariant
])
