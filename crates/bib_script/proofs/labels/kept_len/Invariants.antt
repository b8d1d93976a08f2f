use Rattle.std.proofs.Common.{◌≡◌, ◌≤◌}
use Rattle.history_spec.specs.Steps.{label_limit}
use Rattle.bib_script.specs.Words.{kept_len}
use Rattle.bib_script.proofs.labels.kept_len.Given as goal

abbrev pub invariant-back : goal.invariant-back
invariant-back l = record {
  rest : kept_len l.len l.fn.text ≡ kept_len label_limit l.fn.text;
  within : l.len ≤ label_limit;
}

abbrev pub decreases-back : goal.decreases-back
decreases-back l = l.len
