use Rattle.merge_run.proofs.KeyLines.{key_added}
use Rattle.merge_run.proofs.lines.add_key.Goals as goal

pub returns : goal.returns
returns c =
    key_added _ _ _ _ _ _ _ _ _ _ _ c.args.conflict.now c.in_ok-extend_from_slice.ensures.items c.in_ok-add_lower.ensures c.in_ok-push.ensures.items c.in_ok-add_lower-2.ensures c.in_ok-push-2.ensures.items
    c.in_ok-add_lower-3.ensures c.in_ok-push-3.ensures.items c.as_slice.ensures c.as_slice-2.ensures c.as_slice-3.ensures
