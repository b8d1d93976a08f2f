use Rattle.bib_names.proofs.Words.{◌≡◌, get_or, refl, sym, ap, ◌∙◌, subst, cond, ◌+◌, bytes_eq, Text}
use Rattle.bib_names.proofs.LabelLaws.{count_of_more, labels_more}
use Rattle.bib_names.proofs.labelling.labels_of.Goals as goal

pub loop-base-preserved : goal.loop-base-preserved
loop-base-preserved c =
    let bases = c.args.bases.now in
    let n = c.loop-base.base-index in
    let base = c.as_slice.result.now in
    let is : base ≡ get_or bases n base = subst (λ (b : Text). b ≡ get_or bases n b) (sym c.as_slice.ensures) c.base-item.is in
    record {
      earlier = λ text.
          c.in_ok-push_label.ensures.earlier text ∙ ap (λ k. k + cond (bytes_eq text base) 1 0) (c.loop-base.invariant.earlier text) ∙ sym (count_of_more text bases n base c.loop-base-test.true is);
      told = c.in_ok-push_label.ensures.label
          ∙ labels_more bases c.loop-base.labels.items n base _ _ _ c.loop-base-test.true is (c.in_ok-all.ensures base) (c.loop-base.invariant.earlier base) refl c.loop-base.invariant.told;
    }
