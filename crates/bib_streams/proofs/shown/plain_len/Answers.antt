use Rattle.std.proofs.Common.{◌≡◌, ◌∙◌, false, sym, subst}
use Rattle.bib_streams.specs.Shown.{begins_with_control, IsPlainRun}
use Rattle.bib_streams.proofs.ShownLemmas.{plain-none, plain-more, plain-run}
use Rattle.bib_streams.proofs.shown.plain_len.Goals as goal

pub runs-init : goal.runs-init
runs-init c = plain-none c.args.text.now

pub runs-preserved : goal.runs-preserved
runs-preserved c =
    plain-run c.args.text.now c.runs.len 128 c.runs.invariant.within c.runs.invariant
    (subst (λ t. IsPlainRun t 128) c.split_at.ensures.back (c.begins_with_plain_run.ensures c.runs-test.true))

pub plain-preserved : goal.plain-preserved
plain-preserved c =
    plain-more c.args.text.now c.plain.len c.plain.invariant c.plain-test.true
    (subst (λ t. begins_with_control t ≡ false) c.split_at-in-plain.ensures.back (sym c.begins_with_control.ensures ∙ c.if-not-begins_with_control.true))
