use Rattle.bib_names.proofs.Words.{◌≡◌, ◌∙◌, sym, arith, length, eqb-true}
use Rattle.std.proofs.Common.{◌⊎◌, inl, inr}
use Rattle.std.proofs.lemmas.Bool.{eqb-false}
use Rattle.bibtex_names.proofs.CountLemmas.{counted_more, counted_end}
use Rattle.bibtex_names.proofs.counting.three.Goals as goal
use Rattle.bibtex_names.proofs.counting.three.Goals.{then-loop-wanted-test+else-not-is_empty, else-loop-wanted-test}

pub loop-wanted-preserved : goal.loop-wanted-preserved
loop-wanted-preserved c =
    let rest = c.loop-wanted.rest.now in
    let more = eqb-false (length rest) 0 (sym c.is_empty.ensures ∙ c.if-not-is_empty.true) in
    record {
      told = rw (c.depth_after-depth.ensures.after, c.split_at.ensures.front, c.split_at.ensures.back)
          (counted_more c.loop-wanted.wanted c.loop-wanted.depth c.char_len.result rest (omega (arith, c.loop-wanted-test.true)) (omega (arith, more)) c.char_len.ensures.len ∙ c.loop-wanted.invariant.told);
      small = omega (arith, c.depth_after-depth.ensures.within, c.split_at.ensures.front_len, c.split_at.ensures.back_len, c.char_len.ensures.within, c.loop-wanted.invariant.small);
    }

pub returns : goal.returns
returns c =
    let wanted = c.loop-wanted.wanted in
    let rest = c.loop-wanted.rest.now in
    counted_end wanted c.loop-wanted.depth rest (elim c.loop-wanted-test.branch as (λ _. (wanted ≡ 0) ⊎ (length rest ≡ 0)) [
      | then-loop-wanted-test+else-not-is_empty w ↦ inr (eqb-true (length rest) 0 (sym w.is_empty.ensures ∙ w.if-not-is_empty.false))
      | else-loop-wanted-test w ↦ inl (omega (arith, w.loop-wanted-test.false))
    ]) ∙ c.loop-wanted.invariant.told
