use Rattle.std.proofs.Common.{◌≡◌, ◌∙◌, ◌++◌, List, zip, ap, rules, arith}
use Rattle.std.specs.List.{flat_map}
use Rattle.bib_spec.specs.Text.{Text}
use Rattle.bibtex_labels.specs.Order.{lettered}
use Rattle.bib_answers.specs.Labels.{keyed_line}
use Rattle.bibtex_answers.proofs.LabelLines.{keys_of, line_more, lines_all}
use Rattle.bibtex_answers.proofs.labels.ordered_lines.Goals as goal

pub returns : goal.returns
returns c =
    let labels : c.as_slice-labels.result.now ≡ lettered c.args.entries.now = c.as_slice-labels.ensures ∙ c.in_ok-labels.ensures in
    c.from_vec.ensures ∙ c.lines.invariant
    ∙ ap (flat_map keyed_line) (lines_all c.as_slice-labels.result.now c.args.entries.now c.lines.n (omega (arith, c.lines-test.false, c.min-n-end.ensures)))
    ∙ ap (λ (ls : List Text). flat_map keyed_line (zip ls (keys_of c.args.entries.now))) labels

pub lines-preserved : goal.lines-preserved
lines-preserved c =
    let key : c.as_slice-in-lines.result.now ≡ c.index-entries-n.result.key = search rules in
    let label : c.as_slice.result.now ≡ c.index-labels-n.result = search rules in
    c.in_ok-add_label.ensures
    ∙ ap (λ (t : Text). c.lines.out.items ++ keyed_line (t, c.as_slice-in-lines.result.now)) label
    ∙ ap (λ (k : Text). c.lines.out.items ++ keyed_line (c.index-labels-n.result, k)) key
    ∙ ap (λ (t : Text). t ++ keyed_line (c.index-labels-n.result, c.index-entries-n.result.key)) c.lines.invariant
    ∙ line_more c.as_slice-labels.result.now c.args.entries.now c.lines.n c.index-labels-n.result c.index-entries-n.result (omega (arith, c.lines-test.true, c.min-n-end.ensures)) c.index-labels-n.is c.index-entries-n.is
