use Rattle.bib_answers.proofs.Words.{rules, ◌≡◌, ◌∙◌, ◌++◌, List, zip, ap, flat_map, Text, labels_of, keyed_line}
use Rattle.std.proofs.Common.{arith}
use Rattle.bib_answers.proofs.LabelLines.{label_more, labels_all}
use Rattle.bib_answers.proofs.labels.label_lines.Goals as goal

pub returns : goal.returns
returns c =
    let labels : c.as_slice-labels.result.now ≡ labels_of c.args.bases.now = c.as_slice-labels.ensures ∙ c.in_ok-labels.ensures in
    c.from_vec.ensures ∙ c.line.invariant
    ∙ ap (flat_map keyed_line) (labels_all c.as_slice-labels.result.now c.args.keys.now c.line.n (omega (arith, c.line-test.false, c.min-n-end.ensures)))
    ∙ ap (λ (ls : List Text). flat_map keyed_line (zip ls c.args.keys.now)) labels

pub line-preserved : goal.line-preserved
line-preserved c =
    let key : c.as_slice-in-line.result.now ≡ c.index-keys-n.result = search rules in
    let label : c.as_slice.result.now ≡ c.index-labels-n.result = search rules in
    c.in_ok-add_label.ensures
    ∙ ap (λ (t : Text). c.line.out.items ++ keyed_line (t, c.as_slice-in-line.result.now)) label
    ∙ ap (λ (k : Text). c.line.out.items ++ keyed_line (c.index-labels-n.result, k)) key
    ∙ ap (λ (t : Text). t ++ keyed_line (c.index-labels-n.result, c.index-keys-n.result)) c.line.invariant
    ∙ label_more c.as_slice-labels.result.now c.args.keys.now c.line.n c.index-labels-n.result c.index-keys-n.result (omega (arith, c.line-test.true, c.min-n-end.ensures)) c.index-labels-n.is c.index-keys-n.is
