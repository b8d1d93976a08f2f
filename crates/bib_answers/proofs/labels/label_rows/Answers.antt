use Rattle.bib_answers.proofs.Words.{◌≡◌, ◌∙◌, ℕ, ◌+◌, ◌<◌, ◌++◌, ◌∷◌, [], List, length, take, get_or, sym, subst, take_more, entries_of, next-of, records_at, AreLabelRows}
use Rattle.bib_answers.proofs.EntryNumbers.{entry_key}
use Rattle.bib_answers.proofs.LabelLines.{rows_with_one}
use Rattle.bib_answers.proofs.labels.label_rows.Goals as goal

pub rows-init : goal.rows-init
rows-init c = (c.none-parents.ensures c.args.db.now, λ r reads. c.in_ok-rows.ensures)

pub rows-preserved : goal.rows-preserved
rows-preserved c = (
  c.label_base.ensures.parents,
  λ r reads.
      let list = c.args.list.now in
      let i = c.rows.n-index in
      let n = get_or list i 0 in
      let next : take i list ++ n ∷ [] ≡ take (i + 1) list = sym (take_more list i 0 c.rows-test.true) in
      let within : n < length (entries_of r) = c.requires.numbers r reads i 0 c.rows-test.true in
      let entry = next-of (entries_of r) n within in
      subst (λ (ns : List ℕ). AreLabelRows (records_at c.args.depth (entries_of r) ns) c.add_label_row.new.rows.bases.items c.add_label_row.new.rows.keys.items) next
      (rw (c.in_ok-add_label_row.ensures.bases, c.in_ok-add_label_row.ensures.keys)
      (rows_with_one c.args.depth (entries_of r) (take i list) n entry.0 _ _ _ _ entry.1 (c.in_ok-base.ensures.base r reads entry.0 entry.1)
      (c.key.ensures ∙ entry_key r n c.entry.result within (c.entry.ensures r reads)) (c.rows.invariant.1 r reads))),
)
