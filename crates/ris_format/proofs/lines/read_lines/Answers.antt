use Rattle.ris_format.proofs.Words.{◌≡◌, ◌∙◌, ◌++◌, ◌∷◌, refl, sym, ap, cond-true, cond-false, RisLine, has_bytes, spaced, read_lines, made_all}
use Rattle.std.proofs.Common.{List}
use Rattle.ris_format.proofs.LoopSteps.{kept_more, passed}
use Rattle.ris_format.proofs.lines.read_lines.Goals as goal
use Rattle.ris_format.proofs.lines.read_lines.Goals.{then-has_bytes+in_ok-push, else-has_bytes}

pub loop-line-preserved : goal.loop-line-preserved
loop-line-preserved c =
    let out = c.loop-line.out.items in
    let is : has_bytes (spaced c.line-item.result).value ≡ c.has_bytes.result =
    ap (λ (l : RisLine). has_bytes l.value) (sym c.in_ok-line.ensures) ∙ ap has_bytes (sym c.as_slice.ensures) ∙ sym c.has_bytes.ensures in
    elim c.if-has_bytes.branch [
      | then-has_bytes+in_ok-push w ↦
          rw (w.out-is, w.in_ok-push.ensures.items)
          (kept_more read_lines c.args.lines.now c.loop-line.line-index _ _ out _
          (λ rest.
          ap (λ (l : RisLine). read_lines (l ∷ rest)) (sym c.line-item.is)
          ∙ cond-true _ _ _ (is ∙ w.if-has_bytes.true)
          ∙ ap (λ (l : RisLine). l ∷ read_lines rest) (sym c.in_ok-line.ensures))
          c.loop-line-test.true c.loop-line.invariant)
      | else-has_bytes w ↦
          rw w.out-is
          (passed (λ (lines : List RisLine). out ++ read_lines lines) c.args.lines.now c.loop-line.line-index _ _
          (λ rest.
          ap (λ (l : RisLine). out ++ read_lines (l ∷ rest)) (sym c.line-item.is)
          ∙ ap (λ (ls : List RisLine). out ++ ls) (cond-false _ _ _ (is ∙ w.if-has_bytes.false)))
          c.loop-line-test.true c.loop-line.invariant)
    ]

pub returns : goal.returns
returns c = made_all read_lines _ c.loop-line.line-index c.loop-line.out.items _ refl c.loop-line-test.false c.loop-line.invariant
