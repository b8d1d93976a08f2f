use Rattle.ris_format.proofs.Words.{◌∙◌, ◌++◌, ◌∷◌, Bor, refl, sym, ap, cond-true, cond-false, map-append, Text, RisLine, values_at, made_all}
use Rattle.std.proofs.Common.{map, List}
use Rattle.ris_format.proofs.LoopSteps.{kept_more, passed}
use Rattle.ris_format.proofs.lines.values_at.Goals as goal
use Rattle.ris_format.proofs.lines.values_at.Goals.{then-has_tag+in_ok-push, else-has_tag}

abbrev texts : List (Bor Text) → List Text
texts values = map (λ (v : Bor Text). v.now) values

pub loop-line-preserved : goal.loop-line-preserved
loop-line-preserved c =
    let tags = c.args.tags.now in
    let values = texts c.loop-line.values.items in
    elim c.if-has_tag.branch [
      | then-has_tag+in_ok-push w ↦
          rw (w.values-is, w.in_ok-push.ensures.items, map-append)
          (kept_more (values_at tags) c.args.lines.now c.loop-line.line-index _ _ values _
          (λ rest.
          ap (λ (l : RisLine). values_at tags (l ∷ rest)) (sym c.line-item.is)
          ∙ ap (map (λ (l : RisLine). l.value)) (cond-true _ _ _ (sym c.has_tag.ensures ∙ w.if-has_tag.true))
          ∙ ap (λ (v : Text). v ∷ values_at tags rest) (sym w.as_slice.ensures))
          c.loop-line-test.true c.loop-line.invariant)
      | else-has_tag w ↦
          rw w.values-is
          (passed (λ (lines : List RisLine). values ++ values_at tags lines) c.args.lines.now c.loop-line.line-index _ _
          (λ rest.
          ap (λ (l : RisLine). values ++ values_at tags (l ∷ rest)) (sym c.line-item.is)
          ∙ ap (λ (ls : List RisLine). values ++ map (λ (l : RisLine). l.value) ls) (cond-false _ _ _ (sym c.has_tag.ensures ∙ w.if-has_tag.false)))
          c.loop-line-test.true c.loop-line.invariant)
    ]

pub returns : goal.returns
returns c = made_all (values_at c.args.tags.now) _ c.loop-line.line-index (texts c.loop-line.values.items) _ refl c.loop-line-test.false c.loop-line.invariant
