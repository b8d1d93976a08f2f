use Rattle.journal_format.proofs.Words.{◌<◌, arith, length, sym, step_text}
use Rattle.std.proofs.lemmas.Option.{get_or_from_slice_get}
use Rattle.journal_format.proofs.Written.{written_more}
use Rattle.journal_format.proofs.packed_steps.PackedSteps.put_each.Goals as goal

pub step-preserved : goal.step-preserved
step-preserved c =
    let within : c.step.n < length c.args.self.now = omega (arith, c.step-test.true, c.len-n-end.ensures.count) in
    written_more step_text c.args.out.now.items c.step.out.items c.put_step.new.out.items c.args.self.now c.step.n c.in_ok-step.step within
    (sym (get_or_from_slice_get c.args.self.now c.step.n c.in_ok-step.step c.in_ok-step.step c.in_ok-step.ensures)) c.step.invariant c.in_ok-put_step.ensures
