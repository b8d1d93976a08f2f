use Rattle.ris_text.proofs.Words.{false, map, ap, ◌∙◌}
use Rattle.ris_text.specs.Skipped.{standing}
use Rattle.ris_text.specs.Skipping.{skips_at}
use Rattle.ris_text.proofs.SkipLemmas.{begins_numbered, skipped_since}
use Rattle.ris_text.proofs.skipping.SkippedLines.of.Goals as goal

pub invariant_of-result : goal.invariant_of-result
invariant_of-result c = begins_numbered c.args.file.now c.mark_len.result c.mark_len.ensures.len c.mark_len.ensures.within

pub returns : goal.returns
returns c =
    λ lines are.
    ap (skips_at c.args.file.now false) c.mark_len.ensures.len ∙ ap (map (standing c.args.file.now)) (skipped_since c.args.file.now lines are)
