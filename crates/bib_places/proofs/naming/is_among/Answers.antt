use Rattle.std.proofs.Common.{sym, ◌∙◌, ◌==◌, not, map, ap}
use Rattle.merge_spec.specs.Units.{same_label}
use Rattle.bib_units.specs.Labels.{label_seen}
use Rattle.bib_places.specs.LabelCodes.{code_of}
use Rattle.bib_places.specs.Tallies.{count_of}
use Rattle.bib_places.proofs.Counting.{count-codes, any-counted}
use Rattle.bib_places.proofs.naming.is_among.Goals as goal

pub returns : goal.returns
returns c labels counts =
    let label = label_seen c.args.label in
    ap (λ n. not (n == 0)) (c.count.ensures ∙ counts c.as_slice.result.now ∙ ap (λ t. count_of t (map code_of labels)) (c.as_slice.ensures ∙ c.in_ok-code.ensures) ∙ count-codes label labels)
    ∙ sym (any-counted (same_label label) labels)
