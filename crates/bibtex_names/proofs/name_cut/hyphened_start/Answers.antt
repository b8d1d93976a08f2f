use Rattle.bib_names.proofs.Words.{◌≡◌, ◌-◌, sym, ap, ◌∙◌, arith, length, take, take_all, IsTrimming-less, IsTrimming-done, IsTrimming-none}
use Rattle.bibtex_names.specs.Name.{is_free}
use Rattle.bib_text.specs.Trimming.{up_to_last}
use Rattle.bibtex_names.proofs.name_cut.hyphened_start.Goals as goal
use Rattle.bibtex_names.proofs.name_cut.hyphened_start.Goals.{then-loop-end-test+else-not-is_free, else-loop-end-test}

pub loop-end-preserved : goal.loop-end-preserved
loop-end-preserved c =
    IsTrimming-less is_free c.args.words.now _ c.loop-end.end _ c.index-words-end.result (omega arith) c.loop-end.invariant (ap is_free (sym c.index-words-end.is) ∙ sym c.is_free.ensures ∙ c.if-not-is_free.true)

pub returns-clause-start : goal.returns-clause-start
returns-clause-start c =
    let words = c.args.words.now in
    let end = elim c.loop-end-test.branch as (λ _. c.loop-end.end ≡ up_to_last is_free (take (length words) words)) [
      | then-loop-end-test+else-not-is_free w ↦ IsTrimming-done is_free words _ c.loop-end.end (c.loop-end.end - 1) w.index-words-end.result (omega arith) c.loop-end.invariant (ap is_free (sym w.index-words-end.is) ∙ sym w.is_free.ensures ∙ w.if-not-is_free.false)
      | else-loop-end-test w ↦ IsTrimming-none is_free words _ c.loop-end.end (omega arith) c.loop-end.invariant
    ] in
    let whole = ap (up_to_last is_free) (take_all (length words) words (omega arith)) in
    c.saturating_sub.ensures ∙ ap (λ n. n - 1) (end ∙ whole)
