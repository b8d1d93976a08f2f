use Rattle.bib_answers.proofs.Words.{◌∙◌, ◌++◌, ◌<◌, length, rules, ap₂, subst, Text, entries_of, listed_line, AreMarks}
use Rattle.bib_answers.proofs.LineLists.{lines_more}
use Rattle.bib_answers.proofs.cite.listed_text.Goals as goal

pub list-preserved : goal.list-preserved
list-preserved c = (
  λ r reads.
      let are : AreMarks (length (entries_of r)) c.args.list.now c.as_slice.result.now = subst (λ n. AreMarks n c.args.list.now c.as_slice.result.now) (c.entry_count.ensures r reads) (rw c.as_slice.ensures.value c.in_ok-marks.ensures) in
      let within : c.list.n-index < length c.args.list.now = search rules in
      c.in_ok-push.ensures
      ∙ ap₂ (λ (t u : Text). t ++ u) (c.list.invariant.0 r reads) (c.line_of-line.ensures.line r reads c.args.list.now are)
      ∙ lines_more (listed_line (entries_of r) c.args.list.now) c.args.list.now c.list.n-index 0 within,
  search rules,
)
