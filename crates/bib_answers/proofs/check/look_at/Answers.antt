use Rattle.bib_answers.proofs.Words.{[], ◌∙◌, sym, ap, is_comment, View, is_definition_tree, reports_on}
use Rattle.bib_answers.proofs.ReportSteps.{items_more}
use Rattle.bib_answers.proofs.ItemCounts.{entries_counted, items_counted, counted_small}
use Rattle.bib_answers.proofs.check.look_at.Goals as goal

pub returns : goal.returns
returns c =
    let n = c.args.n in
    let before = c.requires.before in
    let small-entries = counted_small c.is_same_kind.result c.args.found.now.entries n before.few_entries in
    let small-definitions = counted_small c.is_same_kind-2.result c.args.found.now.definitions n before.few_definitions in
    let small-comments = counted_small c.is_same_kind-3.result c.args.found.now.comments n before.few_comments in record {
      reports = λ r reads. items_more (reports_on r) n [] c.args.found.now.reports.items c.add_item_reports.new.out.items (before.reports r reads) (c.in_ok-add_item_reports.ensures r reads);
      entries = λ r reads. c.counted-found.ensures
          ∙ entries_counted r n c.is_same_kind.result c.args.found.now.entries (c.requires.item r reads)
          (λ item at. c.is_same_kind.ensures item.tree (sym (c.kind-kind.ensures ∙ ap (λ (v : View). v.kind) (c.item-item.ensures r reads item at)))) (before.entries r reads);
      definitions = λ r reads. c.counted-found-2.ensures
          ∙ items_counted (λ item. is_definition_tree item.tree) r.items n c.is_same_kind-2.result c.args.found.now.definitions (c.requires.item r reads)
          (λ item at. c.is_same_kind-2.ensures item.tree (sym (c.kind-kind.ensures ∙ ap (λ (v : View). v.kind) (c.item-item.ensures r reads item at)))) (before.definitions r reads);
      comments = λ r reads. c.counted-found-3.ensures
          ∙ items_counted (λ item. is_comment item.tree) r.items n c.is_same_kind-3.result c.args.found.now.comments (c.requires.item r reads)
          (λ item at. c.is_same_kind-3.ensures item.tree (sym (c.kind-kind.ensures ∙ ap (λ (v : View). v.kind) (c.item-item.ensures r reads item at)))) (before.comments r reads);
      few_entries = rw c.counted-found.ensures small-entries;
      few_definitions = rw c.counted-found-2.ensures small-definitions;
      few_comments = rw c.counted-found-3.ensures small-comments;
    }
