use Rattle.bib_answers.proofs.Words.{◌∙◌, sym, ap, View, Written, with_findings}
use Rattle.std.proofs.Common.{arith}
use Rattle.bib_answers.specs.FindingLines.{at_item}
use Rattle.bib_answers.specs.Lint.{front_lines, item_lines, findings_on}
use Rattle.bib_answers.proofs.ReportSteps.{items_more}
use Rattle.bib_answers.proofs.ItemCounts.{entries_counted, counted_small}
use Rattle.bib_answers.proofs.WalkSteps.{item_here}
use Rattle.bib_answers.proofs.lint.look_at.Goals as goal

pub add_item_findings-requires-clause-entries : goal.add_item_findings-requires-clause-entries
add_item_findings-requires-clause-entries c = c.requires.before.entries

pub add_item_findings-requires-clause-parents : goal.add_item_findings-requires-clause-parents
add_item_findings-requires-clause-parents c = c.requires.before.empty_parents

pub counted-found-requires : goal.counted-found-requires
counted-found-requires c = omega (arith, c.requires.before.few_entries, c.requires.small)

pub place_after-found-requires : goal.place_after-found-requires
place_after-found-requires c =
    let here = item_here c.args.db.now c.args.n c.args.found.now.place c.item-item.result c.opens.ensures c.requires.item c.requires.before.place c.item-item.ensures in
    let fits = here.fits in let short = here.short in omega (arith, fits, short)

pub returns : goal.returns
returns c =
    let n = c.args.n in
    let before = c.requires.before in
    let opened = c.opens.ensures in
    let here = item_here c.args.db.now n c.args.found.now.place c.item-item.result opened c.requires.item before.place c.item-item.ensures in
    let small = counted_small c.is_same_kind.result c.args.found.now.entries n before.few_entries in record {
      ignored_are = ap (λ (w : Written). w.ignored) (c.in_ok-add_item_findings.ensures opened.0 opened.1.reads ∙ ap (λ (w : Written). with_findings w (findings_on opened.0 n)) c.begin_item.ensures);
      names_are = ap (λ (w : Written). w.names) (c.in_ok-add_item_findings.ensures opened.0 opened.1.reads ∙ ap (λ (w : Written). with_findings w (findings_on opened.0 n)) c.begin_item.ensures);
      files_are = ap (λ (w : Written). w.files) (c.in_ok-add_item_findings.ensures opened.0 opened.1.reads ∙ ap (λ (w : Written). with_findings w (findings_on opened.0 n)) c.begin_item.ensures);
      text = λ r reads. items_more (item_lines c.args.found.now.lines.ignored c.args.found.now.lines.names c.args.found.now.lines.files r) n (front_lines c.args.found.now.lines.ignored c.args.found.now.lines.names c.args.found.now.lines.files r) c.args.found.now.lines.text c.add_item_findings.new.lines.text
          (before.text r reads)
          (ap (λ (w : Written). w.text) (c.in_ok-add_item_findings.ensures r reads ∙ ap (λ (w : Written). with_findings w (findings_on r n)) (c.begin_item.ensures ∙ ap (at_item c.args.found.now.lines) (before.place r reads))));
      entries = λ r reads. c.counted-found.ensures
          ∙ entries_counted r n c.is_same_kind.result c.args.found.now.entries (c.requires.item r reads)
          (λ item at. c.is_same_kind.ensures item.tree (sym (c.kind.ensures ∙ ap (λ (v : View). v.kind) (c.item-item.ensures r reads item at)))) (before.entries r reads);
      few_entries = rw c.counted-found.ensures small;
      place = λ r reads. c.place_after-found.ensures ∙ (here.next r reads).place;
      empty_parents = before.empty_parents;
    }
