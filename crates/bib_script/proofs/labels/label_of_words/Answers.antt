use Rattle.std.proofs.Common.{◌≡◌, ap, rules}
use Rattle.bib_spec.specs.Text.{Text}
use Rattle.history_spec.specs.Steps.{label_of}
use Rattle.bib_script.specs.Words.{label_of_words}
use Rattle.bib_script.proofs.LabelLemmas.{label_is_made}
use Rattle.bib_script.proofs.labels.label_of_words.Goals as goal

pub unreachable-requires : goal.unreachable-requires
unreachable-requires c =
    let shown : c.as_slice-3.result.now ≡ label_of_words c.args.words.now = search rules in
    cc (c.in-None.is, c.in_ok-label.ensures, ap (λ (text : Text). label_of text) shown, label_is_made c.args.words.now)
